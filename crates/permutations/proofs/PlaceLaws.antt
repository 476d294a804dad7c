-- The turns of the loops that find the place of a change and the point to change with.
use mathlib.Core.Path.{◌≡◌, refl, sym, ap, ◌∙◌, subst}
use mathlib.Core.Bool.{cond}
use mathlib.Core.List.{List, [], ◌∷◌}
use Prim.Native.Nat.{ℕ, zero, suc, ◌+◌, ◌-◌, ◌≤◌, ◌<◌}
use native.Mathlib.Omega.{arith}
use lib.Dec.{ltb}
use lib.ListN.{length, get_or, drop, length-drop, drop_of_length-le}
use lib.Seq.{drop-cons}
use borrow.Author.Tests.{lt-ltb, le-ltb}
use Rattle.std.specs.Prelude.{Option, Some, None}
use Rattle.std.specs.List.{prefix_len}
use Rattle.std.proofs.lemmas.List.Sums.{prefix_len-le-length}
use Rattle.permutations.specs.Next.{last, above, exchanged, next_with, next_order}
use Rattle.permutations.specs.Places.{PivotIs, RunIs}

pub above-less : (x y : ℕ) (l : List ℕ) → x < y → above x (y ∷ l) ≡ suc (above x l)
unfolding above
above-less x y l h = rw (lt-ltb x y h)

pub above-else : (x y : ℕ) (l : List ℕ) → y ≤ x → above x (y ∷ l) ≡ 0
unfolding above
above-else x y l h = rw (le-ltb x y h)

pub above-prefix : (x : ℕ) (l : List ℕ) → above x l ≡ prefix_len (λ y. ltb x y) l
unfolding above
above-prefix x [] = refl
above-prefix x (y ∷ l) = ap (λ (n : ℕ). cond (ltb x y) n 0) (omega (arith, above-prefix x l))

pub above-nil : (x : ℕ) → above x [] ≡ 0
unfolding above
above-nil x = refl

pub last-nil : next_order [] ≡ last
unfolding next_order
last-nil = refl

-- nothing behind a point is larger than it and has a next order
pub last_cons : (x : ℕ) (l : List ℕ) → next_order l ≡ last → above x l ≡ 0 → next_order (x ∷ l) ≡ last
unfolding next_order next_with exchanged
last_cons x l e z = rw (e, z)

-- ---- the place of the change

-- From place i on no point is larger than the one before it.
abbrev pub FallsFrom : List ℕ → ℕ → Type 0
FallsFrom p i = (k : ℕ) → i < k → k < length p → get_or p k 0 ≤ get_or p (k - 1) 0

falls-last : (p : List ℕ) (n i : ℕ) → i + n ≡ length p → FallsFrom p i → next_order (drop i p) ≡ last
falls-last p zero i e f = rw (drop_of_length-le p {i = i} (omega arith)) last-nil
falls-last p (suc n) i e f = rw (drop-cons p i 0 (omega arith)) (last_cons (get_or p i 0) (drop (suc i) p) (falls-last p n (suc i) (omega arith) (λ k h l. f k (omega arith) l)) (none_above n (omega arith)))
  where
    none_above : (m : ℕ) → suc i + m ≡ length p → above (get_or p i 0) (drop (suc i) p) ≡ 0
    none_above zero d = rw (drop_of_length-le p {i = suc i} (omega arith)) (above-nil (get_or p i 0))
    none_above (suc m) d =
        rw (drop-cons p (suc i) 0 (omega arith)) (above-else (get_or p i 0) (get_or p (suc i) 0) (drop (suc (suc i)) p) (subst (λ (k : ℕ). get_or p (suc i) 0 ≤ get_or p k 0) (omega arith) (f (suc i) (omega arith) (omega arith))))

-- The last place at which the points rise, or none where they rise nowhere, is that of the change.
pub pivot-found : (p : List ℕ) (o : Option ℕ) → (o ≡ None → FallsFrom p 0) → ((r : ℕ) → o ≡ Some r → (0 < r) × (r < length p))
    → ((r : ℕ) → o ≡ Some r → get_or p (r - 1) 0 < get_or p r 0) → ((r : ℕ) → o ≡ Some r → FallsFrom p r) → PivotIs p o
pivot-found p None f h g t = falls-last p (length p) 0 (omega arith) (f refl)
pivot-found p (Some r) f h g t =
    record { behind = (h r refl).0; inside = (h r refl).1; last_rest = falls-last p (length p - r) r (omega (arith, h r refl)) (t r refl); rises = g r refl }

-- ---- the point to change with

pub run-found : (p : List ℕ) (r x n : ℕ) → r < length p → x < get_or p r 0 → n ≡ prefix_len (λ y. ltb x y) (drop r p) → RunIs p r x (r + n - 1)
run-found p r x n h l e =
    let a : above x (drop r p) ≡ n = above-prefix x (drop r p) ∙ sym e in
    let s : above x (drop r p) ≡ suc (above x (drop (suc r) p)) = rw (drop-cons p r 0 h) (above-less _ _ _ l) in
    let m : n ≤ length (drop r p) = rw e (prefix_len-le-length (λ y. ltb x y) (drop r p)) in
    record { after = omega (arith, a, s); inside = omega (arith, a, s, m, length-drop r p); run = omega (arith, a, s) }

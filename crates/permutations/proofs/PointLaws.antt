-- How often points stand in orders.
use mathlib.Core.Path.{◌≡◌, refl, sym, ap, ◌∙◌}
use mathlib.Core.Bool.{Bool, true, false, cond}
use mathlib.Core.Logic.{◌⊎◌, inl, inr}
use mathlib.Core.List.{List, [], ◌∷◌, ◌++◌, reverse, reverse-cons}
use Prim.Native.Nat.{ℕ, zero, suc, ◌+◌, ◌<◌, suc-le-suc}
use native.Mathlib.Nat.{not-suc-le-zero, le_of_suc-le-suc}
use native.Mathlib.Omega.{arith}
use lib.Dec.{eqb}
use lib.ListN.{length, get_or, set, take, drop, length-append, take-append-drop}
use borrow.Author.Tests.{eqb-true, eq-eqb}
use Rattle.buffers.specs.Lists.{occurs}
use Rattle.buffers.proofs.OccursLaws.{occurs-append}
use Rattle.permutations.specs.Orders.{Permutation}

-- 1 where two points are one, else 0
unfoldable pub one : ℕ → ℕ → ℕ
one p q = cond (eqb p q) 1 0

pub one_same : (p : ℕ) → one p p ≡ 1
unfolding one
one_same p = rw (eq-eqb p p refl)

pub one-cases : (p q : ℕ) → (p ≡ q) ⊎ (one p q ≡ 0)
unfolding one
one-cases p q = go (eqb p q) refl
  where
    go : (t : Bool) → eqb p q ≡ t → (p ≡ q) ⊎ (◌≡◌ {A = ℕ} (cond t 1 0) 0)
    go true e = inl (eqb-true p q e)
    go false e = inr refl

pub occurs-none : (p : ℕ) → occurs p [] ≡ 0
unfolding occurs
occurs-none p = refl

pub occurs-cons : (p q : ℕ) (l : List ℕ) → occurs p (q ∷ l) ≡ one p q + occurs p l
unfolding occurs one
occurs-cons p q l = refl

pub occurs-reverse : (p : ℕ) (l : List ℕ) → occurs p (reverse l) ≡ occurs p l
occurs-reverse p [] = refl
occurs-reverse p (q ∷ l) =
    rw reverse-cons (omega (arith, occurs-append p (reverse l) (q ∷ []), occurs-reverse p l, occurs-cons p q [], occurs-cons p q l, occurs-none p))

-- a point put in the place of another
pub occurs-set : (p : ℕ) (l : List ℕ) (j x : ℕ) → j < length l → occurs p (set l j x) + one p (get_or l j 0) ≡ occurs p l + one p x
occurs-set p [] j x h = absurd (not-suc-le-zero h)
occurs-set p (q ∷ l) zero x h = omega (arith, occurs-cons p q l, occurs-cons p x l)
occurs-set p (q ∷ l) (suc j) x h = omega (arith, occurs-set p l j x (le_of_suc-le-suc h), occurs-cons p q l, occurs-cons p q (set l j x))

pub same_refl : (a : List ℕ) → Permutation a a
same_refl a = record { points = λ p. refl }

pub same-sym : {a b : List ℕ} → Permutation a b → Permutation b a
same-sym h = record { points = λ p. sym (h.points p) }

pub same-trans : {a b c : List ℕ} → Permutation a b → Permutation b c → Permutation a c
same-trans h g = record { points = λ p. h.points p ∙ g.points p }

pub same-cons : {a b : List ℕ} (x : ℕ) → Permutation a b → Permutation (x ∷ a) (x ∷ b)
same-cons {a} {b} x h = record { points = λ p. omega (arith, occurs-cons p x a, occurs-cons p x b, h.points p) }

pub same-tail : {a b : List ℕ} (x : ℕ) → Permutation (x ∷ a) (x ∷ b) → Permutation a b
same-tail {a} {b} x h = record { points = λ p. omega (arith, occurs-cons p x a, occurs-cons p x b, h.points p) }

-- no order without points has the points of one that has some
pub same_none : {x : ℕ} {a : List ℕ} → Permutation (x ∷ a) [] → ⊥
same_none {x} {a} h = omega (arith, h.points x, occurs-cons x x a, one_same x, occurs-none x)

-- where a point stands in an order: what is left and right of it
pub record Around (x : ℕ) (l : List ℕ) : Type 0 where
  pub left : List ℕ
  pub right : List ℕ
  pub whole : l ≡ left ++ (x ∷ right)

pub split_at : (x : ℕ) (l : List ℕ) → 0 < occurs x l → Around x l
split_at x [] h = absurd (omega (arith, occurs-none x))
split_at x (q ∷ l) h = go (one-cases x q) (split_at x l)
  where
    go : (x ≡ q) ⊎ (one x q ≡ 0) → (0 < occurs x l → Around x l) → Around x (q ∷ l)
    go (inl e) rest = record { left = []; right = l; whole = ap (λ (y : ℕ). y ∷ l) (sym e) }
    go (inr e) rest =
        let s : Around x l = rest (omega (arith, occurs-cons x q l)) in
        record { left = q ∷ s.left; right = s.right; whole = ap (λ (m : List ℕ). q ∷ m) s.whole }

-- an order that has the points of x and xs has x somewhere
pub split-same : {x : ℕ} {xs r : List ℕ} → Permutation (x ∷ xs) r → Around x r
split-same {x} {xs} {r} h = split_at x r (omega (arith, h.points x, occurs-cons x x xs, one_same x))

-- and its other points are those of xs
pub split_rest : {x : ℕ} {xs r : List ℕ} → Permutation (x ∷ xs) r → (s : Around x r) → Permutation xs (s.left ++ s.right)
split_rest {x} {xs} {r} h s = record { points = each }
  where
    each : (p : ℕ) → occurs p xs ≡ occurs p (s.left ++ s.right)
    each p =
        omega (
          arith,
          h.points p,
          ap (occurs p) s.whole,
          occurs-cons p x xs,
          occurs-append p s.left (x ∷ s.right),
          occurs-cons p x s.right,
          occurs-append p s.left s.right,
        )

-- two orders of the same points are as long
pub same_length : (a b : List ℕ) → Permutation a b → length a ≡ length b
same_length [] [] h = refl
same_length [] (y ∷ b) h = absurd (same_none (same-sym h))
same_length (x ∷ a) b h =
    let s : Around x b = split-same h in
    omega (
      arith,
      same_length a (s.left ++ s.right) (split_rest h s),
      ap length s.whole,
      length-append s.left (x ∷ s.right),
      length-append s.left s.right,
    )

-- every point of an order stands at an index
pub below_each : (n : ℕ) (l : List ℕ) → ((i : ℕ) → i < length l → get_or l i 0 < n) → (v : ℕ) → 0 < occurs v l → v < n
below_each n [] h v g = absurd (omega (arith, occurs-none v))
below_each n (x ∷ l) h v g = go (one-cases v x) (below_each n l (λ i k. h (suc i) (suc-le-suc k)) v)
  where
    go : (v ≡ x) ⊎ (one v x ≡ 0) → (0 < occurs v l → v < n) → v < n
    go (inl e) rest = omega (arith, h 0 (omega arith))
    go (inr e) rest = rest (omega (arith, occurs-cons v x l))

-- orders of the same points that begin alike go on with the same points
pub same_rest : (i : ℕ) (a b : List ℕ) → Permutation a b → take i b ≡ take i a → Permutation (drop i a) (drop i b)
same_rest i a b h e = record { points = each }
  where
    each : (p : ℕ) → occurs p (drop i a) ≡ occurs p (drop i b)
    each p =
        omega (
          arith,
          h.points p,
          ap (occurs p) (take-append-drop i a),
          ap (occurs p) (take-append-drop i b),
          occurs-append p (take i a) (drop i a),
          occurs-append p (take i b) (drop i b),
          ap (occurs p) e,
        )

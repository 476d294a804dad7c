-- Lists read by index: after a store, past the first entry, past the end, in a part, and full of one value.
use mathlib.Core.Path.{◌≡◌, refl, sym, ap, ◌∙◌, subst}
use mathlib.Core.List.{List, [], ◌∷◌, ◌++◌, tail, append-nil}
use Prim.Native.Nat.{ℕ, zero, suc, ◌≤◌, ◌<◌}
use native.Mathlib.Decide.{ℕ_discrete, dec_lt}
use native.Mathlib.Omega.{arith}
use lib.ListN.{length, get_or, set, take, drop, replicate, length-replicate, get_or-eq_default}
use lib.Seq.{get_or-set_same, get_or-set_other, length-take-le, drop-length}
use Rattle.graph.specs.Rows.{at}
use Rattle.buffers.specs.Lists.{Below}

pub at_tail : (l : List ℕ) (i : ℕ) → at (tail l) i ≡ at l (suc i)
at_tail [] i = refl
at_tail (x ∷ l) i = refl

-- ---- after a store

pub hit : (l : List ℕ) (t v i : ℕ) → t < length l → i ≡ t → at (set l t v) i ≡ v
hit l t v i h e = ap (at (set l t v)) e ∙ get_or-set_same l t v 0 h

pub miss : (l : List ℕ) (t v i : ℕ) → (i ≡ t → ⊥) → at (set l t v) i ≡ at l i
miss l t v i ne = get_or-set_other l t i v 0 ne

-- what holds of a stored value at its place, and of the old entry elsewhere
pub set_cases : (P : ℕ → Type 0) (l : List ℕ) (t v i : ℕ) → t < length l → (t ≡ i → P v) → ((i ≡ t → ⊥) → P (at l i)) → P (at (set l t v) i)
set_cases P l t v i h same other = go (ℕ_discrete i t)
  where
    go : Dec (i ≡ t) → P (at (set l t v) i)
    go (yes e) = subst P (sym (hit l t v i h e)) (same (sym e))
    go (no ne) = subst P (sym (miss l t v i ne)) (other ne)

-- ---- full of one value

pub blank-at : {A : Type 0} (n i : ℕ) (d : A) → get_or (replicate n d) i d ≡ d
blank-at zero i d = refl
blank-at (suc n) zero d = refl
blank-at (suc n) (suc i) d = blank-at n i d

pub zero-at : (n i : ℕ) → at (replicate n 0) i ≡ 0
zero-at n i = blank-at n i 0

pub cleared : (n : ℕ) (l : List ℕ) → length l ≡ n → replicate n 0 ++ drop n l ≡ replicate n 0
cleared n l e = ap (λ (t : List ℕ). replicate n 0 ++ t) (sym (ap (λ (k : ℕ). drop k l) e) ∙ drop-length l) ∙ append-nil (replicate n 0)

-- a part of an array of zeros has as many entries as it says
pub part_count : (n k : ℕ) → n ≤ k → length (take n (replicate {A = ℕ} k 0)) ≡ n
part_count n k h = length-take-le n (replicate k 0) (subst (λ (x : ℕ). n ≤ x) (sym (length-replicate {A = ℕ} k 0)) h)

-- ---- small numbers

pub below-higher : {n m : ℕ} {l : List ℕ} → Below n l → n ≤ m → Below m l
below-higher b h = record { below = λ i k. omega (arith, b.below i k) }

-- what stands anywhere in a list of small numbers is small, past its end too
pub at_low : (n : ℕ) (l : List ℕ) → 0 < n → Below n l → (i : ℕ) → at l i < n
at_low n l h b i = go (dec_lt i (length l))
  where
    go : Dec (i < length l) → at l i < n
    go (yes e) = b.below i e
    go (no d) = rw (get_or-eq_default l 0 {n = i} (omega arith)) h

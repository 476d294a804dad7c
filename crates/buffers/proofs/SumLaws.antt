-- Sums over a run of numbers, and of numbers that are all low.
use mathlib.Core.Path.{◌≡◌, refl, ap}
use mathlib.Core.List.{List, [], ◌∷◌, map}
use mathlib.Core.Logic.{⊎_elim}
use Prim.Native.Nat.{ℕ, zero, suc, ◌+◌, ◌*◌, ◌≤◌, ◌<◌, suc-le-suc}
use native.Mathlib.Nat.{zero-lt-suc, eq-or-lt_of_le}
use native.Mathlib.Omega.{arith}
use lib.ListN.{length}
use Rattle.graph.specs.Rows.{at}
use Rattle.graph.specs.Search.{run}
use Rattle.buffers.specs.Lists.{sum}

-- a sum over k numbers from a on, of terms that are the same, and of terms that are the same but for one
pub sum_same : (f g : ℕ → ℕ) (a k : ℕ) → ((q : ℕ) → a ≤ q → f q ≡ g q) → sum (map f (run a k)) ≡ sum (map g (run a k))
unfolding sum run
sum_same f g a zero h = refl
sum_same f g a (suc k) h = omega (arith, h a (omega arith), sum_same f g (suc a) k (λ q l. h q (omega arith)))

pub sum-but-one : (f g : ℕ → ℕ) (x r a k : ℕ) → f r ≡ x + g r → ((q : ℕ) → (q ≡ r → ⊥) → f q ≡ g q) → a ≤ r → r < a + k
    → sum (map f (run a k)) ≡ x + sum (map g (run a k))
unfolding sum run
sum-but-one f g x r a zero one others l h = absurd (omega arith)
sum-but-one f g x r a (suc k) one others l h = ⊎_elim
    (λ e. omega (arith, one, ap f e, ap g e, sum_same f g (suc a) k (λ q m. others q (λ w. omega arith))))
    (λ m. omega (arith, others a (λ w. omega arith), sum-but-one f g x r (suc a) k one others (omega arith) (omega arith)))
    (eq-or-lt_of_le l)

-- a run is one longer: the last number's term is added
pub sum-last : (f : ℕ → ℕ) (a k : ℕ) → sum (map f (run a (suc k))) ≡ sum (map f (run a k)) + f (a + k)
unfolding sum run
sum-last f a zero = let e : a + 0 ≡ a = omega arith in omega (arith, ap f e)
sum-last f a (suc k) = let e : suc a + k ≡ a + suc k = omega arith in omega (arith, sum-last f (suc a) k, ap f e)

-- a sum of numbers none of which is above k
pub sum_low : (l : List ℕ) (k : ℕ) → ((i : ℕ) → i < length l → at l i ≤ k) → sum l ≤ length l * k
unfolding sum
sum_low [] k h = omega arith
sum_low (x ∷ l) k h = omega (arith, h 0 (zero-lt-suc (length l)), sum_low l k (λ i b. h (suc i) (suc-le-suc b)))

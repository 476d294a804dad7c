-- A run of numbers: its length, and what each turn of a loop over it meets.
use mathlib.Core.Path.{◌≡◌, refl, sym, ap, ◌∙◌}
use mathlib.Core.List.{List, [], ◌∷◌, ◌++◌}
use Prim.Native.Nat.{ℕ, zero, suc, ◌+◌, ◌-◌, ◌≤◌, ◌<◌}
use native.Mathlib.Numerals.{add-one}
use native.Mathlib.Nat.{add-zero, not-suc-le-zero, le_of_suc-le-suc}
use native.Mathlib.Omega.{arith}
use lib.ListN.{length, get_or}
use Rattle.graph.specs.Search.{run}

pub run_length : (a k : ℕ) → length (run a k) ≡ k
unfolding run
run_length a zero = refl
run_length a (suc k) = ap suc (run_length (suc a) k)

-- the numbers one by one, and the last of them
pub run_at : (a k i d : ℕ) → i < k → get_or (run a k) i d ≡ a + i
unfolding run
run_at a zero i d h = absurd (not-suc-le-zero h)
run_at a (suc k) zero d h = omega arith
run_at a (suc k) (suc i) d h = omega (arith, run_at (suc a) k i d (le_of_suc-le-suc h))

pub run-last : (a k : ℕ) → run a (suc k) ≡ run a k ++ (a + k) ∷ []
unfolding run
run-last a zero = ap (λ (z : ℕ). z ∷ []) (sym (add-zero a))
run-last a (suc k) =
    let e : suc a + k ≡ a + suc k = omega arith in
    ap (λ (l : List ℕ). a ∷ l) (run-last (suc a) k ∙ ap (λ (z : ℕ). run (suc a) k ++ z ∷ []) e)

pub run-turn : (r e : ℕ) → r < e → run r (e - r) ≡ r ∷ run (r + 1) (e - (r + 1))
unfolding run
run-turn r e h = let k : e - r ≡ suc (e - (r + 1)) = omega arith in rw (k, add-one r)

pub run_end : (r e : ℕ) → e ≤ r → run r (e - r) ≡ []
unfolding run
run_end r e h = let k : e - r ≡ 0 = omega arith in rw k

-- the numbers between a and b
pub run-between : (a b : ℕ) → run (suc a) (b - a - 1) ≡ run (a + 1) (b - (a + 1))
run-between a b = let k : b - a - 1 ≡ b - (a + 1) = omega arith in rw (k, add-one a)

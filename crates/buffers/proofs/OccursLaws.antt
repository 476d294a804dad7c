-- How often a point stands in a row, and in the rows one behind the other.
use mathlib.Core.Path.{◌≡◌, refl}
use mathlib.Core.Bool.{Bool, true, false}
use mathlib.Core.List.{List, [], ◌∷◌, ◌++◌, flatten}
use Prim.Native.Nat.{ℕ, zero, suc, ◌+◌, ◌≤◌, ◌<◌}
use native.Mathlib.Nat.{not-suc-le-zero, le_of_suc-le-suc}
use native.Mathlib.Omega.{arith}
use lib.Dec.{ltb}
use lib.ListN.{length, get_or}
use borrow.Author.Tests.{eq-eqb, ltb-true, ltb-false}
use Rattle.graph.specs.Rows.{at}
use Rattle.buffers.specs.Lists.{occurs}

-- what stands at an index of a row stands in the row
pub at-occurs : (row : List ℕ) (i : ℕ) → i < length row → 0 < occurs (at row i) row
unfolding occurs
at-occurs [] i h = absurd (not-suc-le-zero h)
at-occurs (q ∷ row) zero h = rw (eq-eqb q q refl) (omega arith)
at-occurs (q ∷ row) (suc i) h = omega (arith, at-occurs row i (le_of_suc-le-suc h))

-- so every entry of a row is below n where no number from n on stands in it
pub row_below : (n : ℕ) (row : List ℕ) → ((p : ℕ) → n ≤ p → occurs p row ≡ 0) → (i : ℕ) → i < length row → at row i < n
row_below n row none i h = go (ltb (at row i) n) refl
  where
    go : (t : Bool) → ltb (at row i) n ≡ t → at row i < n
    go true e = omega (arith, ltb-true (at row i) n e)
    go false e = absurd (omega (arith, none (at row i) (ltb-false (at row i) n e), at-occurs row i h))

pub occurs-append : (p : ℕ) (l m : List ℕ) → occurs p (l ++ m) ≡ occurs p l + occurs p m
unfolding occurs
occurs-append p [] m = omega arith
occurs-append p (q ∷ l) m = omega (arith, occurs-append p l m)

-- what stands in no row does not stand in the rows one behind the other
pub flat-none : (p : ℕ) (o : List (List ℕ)) → ((r : ℕ) → occurs p (get_or o r []) ≡ 0) → occurs p (flatten o) ≡ 0
unfolding occurs flatten
flat-none p [] h = refl
flat-none p (row ∷ o) h = omega (arith, occurs-append p row (flatten o), h zero, flat-none p o (λ r. h (suc r)))

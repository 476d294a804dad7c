-- Which rows are found, and how high best rows can be.
use mathlib.Core.Path.{◌≡◌}
use mathlib.Core.List.{List}
use Prim.Native.Nat.{ℕ, ◌-◌, ◌≤◌, ◌<◌}
use native.Mathlib.Decide.{dec_lt}
use native.Mathlib.Nat.{le_trans, mul-le-mul_left, mul-le-mul_right}
use native.Mathlib.Omega.{arith}
use lib.ListN.{length, get_or-eq_default}
use Rattle.std.specs.Prelude.{Option, Some, None}
use Rattle.graph.specs.declared.Edge.{Edge}
use Rattle.graph.specs.Rows.{at, Best, Within}
use Rattle.graph.specs.Search.{rows_of}
use Rattle.graph.proofs.BoundLaws.{widest-le, best-bounded}
use Rattle.table.specs.Limits.{max_steps, max_gap}
use Rattle.outcome.specs.Refusal.{done}
use Rattle.acyclic.specs.Loops.{lowest_on_loop}
use Rattle.rows.specs.Answers.{unless_loop, rows_found}
use Rattle.rows.specs.Limits.{top_row, RowsLow}
use Rattle.rows.specs.Placed.{FairEdges}

-- ---- found

-- rows that no loop stands against are those that were to be found
pub loop-free : (l : Option ℕ) {found rows : List ℕ} → unless_loop l found ≡ done rows → rows ≡ found
loop-free None e = cc
loop-free (Some s) e = let z : ◌≡◌ {A = ℕ} 0 1 = cc in absurd (omega arith)

pub found_rows : (n : ℕ) (edges : List Edge) {rows : List ℕ} → rows_found n edges ≡ done rows → rows ≡ rows_of n edges
unfolding rows_found
found_rows n edges e = loop-free (lowest_on_loop n edges) e

-- ---- the bound

-- best rows are at most (n − 1) times the largest gap, for any n and any gaps; so at the limits none is above top_row
pub best-low : (n : ℕ) (edges : List Edge) (rows : List ℕ) → FairEdges n edges → Best n edges rows → RowsLow rows
best-low n edges rows fair best = record { each = λ v. go v (dec_lt v n) }
  where
    within : Within n edges
    within i b = ((fair.each i b).from_in, (fair.each i b).to_in)

    few : n - 1 ≤ max_steps - 1
    few = omega (arith, fair.few_steps)

    go : (v : ℕ) → Dec (v < n) → at rows v ≤ top_row
    go v (yes h) =
        le_trans (best-bounded n edges within rows best v h)
        (le_trans (mul-le-mul_left (n - 1) (widest-le edges max_gap (λ i b. (fair.each i b).gap_low))) (mul-le-mul_right max_gap few))
    go v (no h) = omega (arith, get_or-eq_default rows 0 (past v h))
      where
        past : (v : ℕ) → (v < n → ⊥) → length rows ≤ v
        past v h = omega (arith, best.one_a_node)

-- The larger of what is counted and the rows of the nodes that are left is the number of rows.
use mathlib.Core.Path.{◌≡◌}
use Prim.Native.Nat.{max}
use lib.ListN.{drop}
use Rattle.points.specs.Points.{row_count}
use Rattle.points.proofs.count_rows.Given as goal

abbrev pub invariant-loop-row : goal.invariant-loop-row
invariant-loop-row l = max (row_count (drop l.row-index l.rows)) l.count ≡ row_count l.rows

-- The points of the rows passed have their positions.
use mathlib.Core.Path.{◌≡◌}
use lib.ListN.{length}
use Rattle.passes.specs.Laid.{rows_held}
use Rattle.passes.proofs.PositionLaws.{PlacedRows}
use Rattle.passes.proofs.place_all.Given as goal

abbrev pub invariant-loop-a : goal.invariant-loop-a
invariant-loop-a l = PlacedRows (rows_held l.first) l.order l.first (length l.yielded) l.pos × (length l.pos ≡ length l.initial.pos)

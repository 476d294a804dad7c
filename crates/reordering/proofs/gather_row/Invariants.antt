-- The points of the row that are left are still to be gathered.
use Rattle.reordering.proofs.GatherLaws.{Gathering}
use Rattle.reordering.proofs.gather_row.Given as goal

abbrev pub invariant-loop-p : goal.invariant-loop-p
invariant-loop-p g l = Gathering l.row l.order l.r l.points.items l.p-index

-- The dummies from the next row to the head's are still to be laid.
use Rattle.std.proofs.Common.{◌-◌, suc}
use Rattle.graph.specs.Search.{run}
use Rattle.labels.proofs.PageLaws.{Putting}
use Rattle.lines.specs.Printing.{dummies_on}
use Rattle.lines.proofs.dummies.lay_edge.Given as goal

abbrev pub invariant-loop-row : goal.invariant-loop-row
invariant-loop-row g l = Putting l.initial.all.items (dummies_on l.edge (run (suc l.top) (l.bottom - suc l.top))) l.all.items (dummies_on l.edge (run l.row (l.bottom - l.row)))

-- The dummies of the edges from the index on are still to be laid.
use Rattle.std.proofs.Common.{[]}
use Rattle.merging.specs.Merged.{drawn_edges}
use Rattle.points.specs.Points.{dummies}
use Rattle.labels.proofs.PageLaws.{Putting}
use Rattle.lines.specs.Printing.{numbered}
use Rattle.lines.proofs.LayLaws.{still}
use Rattle.lines.proofs.dummies.lay_dummies.Given as goal

abbrev pub invariant-loop-merged : goal.invariant-loop-merged
invariant-loop-merged g l =
    Putting [] (numbered l.list (dummies l.ys 0 (drawn_edges l.turned l.list))) l.all.items (still l.list l.ys (drawn_edges l.turned l.list) l.merged-index)

-- Behind the rows of the nodes, those of the dummies of the edges that are left are still to be written.
use lib.ListN.{length}
use Rattle.points.specs.Laying.{edges_between}
use Rattle.buffers.proofs.WriteLaws.{Writing}
use Rattle.points.proofs.EdgeLaws.{dummy_rows, edges_from}
use Rattle.points.proofs.Layout.lay_rows.Given as goal

abbrev pub invariant-loop-a : goal.invariant-loop-a
invariant-loop-a l = let s = l.self in
    Writing l.initial.row l.initial.p (dummy_rows s.rows.now (edges_between s.from.now s.to.now)) l.row l.p (dummy_rows s.rows.now (edges_from s.from.now s.to.now (length l.yielded)))

-- What is counted, with the dummies of the edges that are left, is the number of points.
use mathlib.Core.Path.{◌≡◌}
use Prim.Native.Nat.{◌+◌}
use lib.ListN.{length}
use Rattle.points.specs.Laying.{edges_between}
use Rattle.points.proofs.EdgeLaws.{between_all, edges_from}
use Rattle.points.proofs.Layout.count_points.Given as goal

abbrev pub invariant-loop-a : goal.invariant-loop-a
invariant-loop-a l = let s = l.self in
    l.count + between_all s.rows.now (edges_from s.from.now s.to.now (length l.yielded)) ≡ length s.rows.now + between_all s.rows.now (edges_between s.from.now s.to.now)

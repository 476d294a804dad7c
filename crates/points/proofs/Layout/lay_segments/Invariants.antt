-- The segments of the edges that are left are still to be written, their dummies numbered from d on.
use mathlib.Core.Path.{◌≡◌}
use Prim.Native.Nat.{◌+◌}
use lib.ListN.{length}
use Rattle.points.specs.Laying.{edges_between, uppers, lowers}
use Rattle.points.specs.Points.{segments, segments_from}
use Rattle.buffers.proofs.WriteLaws.{Writing}
use Rattle.points.proofs.EdgeLaws.{between_all, edges_from}
use Rattle.points.proofs.Layout.lay_segments.Given as goal

abbrev pub invariant-loop-a : goal.invariant-loop-a
invariant-loop-a l = let s = l.self in let left = edges_from s.from.now s.to.now (length l.yielded) in
    (l.d + between_all s.rows.now left ≡ length s.rows.now + between_all s.rows.now (edges_between s.from.now s.to.now))
    × Writing l.initial.upper 0 (uppers (segments s.rows.now (edges_between s.from.now s.to.now))) l.upper l.s (uppers (segments_from s.rows.now l.d left))
    × Writing l.initial.lower 0 (lowers (segments s.rows.now (edges_between s.from.now s.to.now))) l.lower l.s (lowers (segments_from s.rows.now l.d left))

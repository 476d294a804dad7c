-- The numbers from the one for place i on are still to be written.
use Prim.Native.Nat.{◌+◌, ◌-◌}
use lib.ListN.{length}
use Rattle.graph.specs.Search.{run}
use Rattle.buffers.proofs.WriteLaws.{Writing}
use Rattle.points.proofs.number_from.Given as goal

abbrev pub invariant-loop-i : goal.invariant-loop-i
invariant-loop-i l = let n = length l.initial.part in
    Writing l.initial.part 0 (run l.first n) l.part l.i (run (l.first + l.i) (l.first + n - (l.first + l.i)))

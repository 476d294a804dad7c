-- What is left of the pass, the rows before row r - 1, gives the whole.
use Prim.Native.Nat.{◌≤◌}
use Rattle.passes.specs.Laid.{rows_held}
use Rattle.passes.specs.Kept.{WorkKept}
use Rattle.passes.proofs.PassLaws.{GoingUp}
use Rattle.passes.proofs.pass_up.Given as goal

abbrev pub invariant-loop-r : goal.invariant-loop-r
invariant-loop-r l = let s = l.side in
    GoingUp s.far.now s.head.now s.next.now s.counts.now (rows_held l.first) l.r l.first l.initial.order l.initial.pos l.order l.pos
    × WorkKept l.initial.work l.work × (l.r ≤ rows_held l.first)

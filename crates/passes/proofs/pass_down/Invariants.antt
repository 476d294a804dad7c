-- What is left of the pass from row r on gives the whole.
use Rattle.passes.specs.Laid.{rows_held}
use Rattle.passes.specs.Kept.{WorkKept}
use Rattle.passes.proofs.PassLaws.{GoingDown}
use Rattle.passes.proofs.pass_down.Given as goal

abbrev pub invariant-loop-r : goal.invariant-loop-r
invariant-loop-r l = let s = l.side in
    GoingDown s.far.now s.head.now s.next.now s.counts.now (rows_held l.first) l.r l.first l.initial.order l.initial.pos l.order l.pos
    × WorkKept l.initial.work l.work

use Rattle.std.proofs.Common.{◌-◌, length}
use Rattle.relaxation.specs.Loans.{LoanKept}
use Rattle.hints.proofs.forest.Forest.grow_root.Given as goal

abbrev pub invariant-loop-i : goal.invariant-loop-i
invariant-loop-i l = LoanKept l.fn.self.queue l.self.queue

abbrev pub decreases-loop-i : goal.decreases-loop-i
decreases-loop-i l = length l.fn.self.queue.now - l.i

use Rattle.relaxation.specs.Loans.{LoanKept}
use Rattle.hints.proofs.forest.Forest.reach_list.Given as goal

abbrev pub invariant-loop-k : goal.invariant-loop-k
invariant-loop-k l = LoanKept l.fn.self.queue l.self.queue

abbrev pub decreases-loop-k : goal.decreases-loop-k
decreases-loop-k l = l.k

use Rattle.relaxation.specs.Loans.{LoanKept}
use Rattle.hints.proofs.forest.Forest.grow_roots.Given as goal

abbrev pub invariant-loop-root : goal.invariant-loop-root
invariant-loop-root l = LoanKept l.fn.self.queue l.self.queue

-- By the firmness of the edge, and by the mark from its head to its tail.
use borrow.Author.Tests.{not-true, not-false}
use Rattle.orientation.proofs.JudgeLaws.{judged-must, judged-turned, judged-kept}
use Rattle.orientation.proofs.judge.judge_edge.Goals as goal

pub returns-then-not-e-clause-judged : goal.returns-then-not-e-clause-judged
returns-then-not-e-clause-judged c = judged-must _ _ _ (not-true _ c.if-not-e.true)

pub returns-then-leads-clause-judged : goal.returns-then-leads-clause-judged
returns-then-leads-clause-judged c = judged-turned _ _ _ (not-false _ c.if-not-e.false) c.requires cc

pub returns-clause-judged : goal.returns-clause-judged
returns-clause-judged c = judged-kept _ _ _ (not-false _ c.if-not-e.false) c.requires _ (cc) c.add_edge.ensures.added

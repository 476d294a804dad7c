-- The sum so far and the cost with the points that are left make the whole.
use Rattle.exchange.proofs.SumLaws as laws
use Rattle.exchange.proofs.costs.add_right.Given as goal

abbrev pub invariant-loop-y : goal.invariant-loop-y
invariant-loop-y g l = laws.Adding g.c l.x l.right l.sum l.y-index

-- The sum so far and the cost of the points that are left make the whole.
use Rattle.exchange.proofs.SumLaws as laws
use Rattle.exchange.proofs.costs.add_pairs.Given as goal

abbrev pub ghost-add_right : goal.ghost-add_right
ghost-add_right g a = g.c

abbrev pub invariant-loop-a : goal.invariant-loop-a
invariant-loop-a g l = laws.Totalling g.c l.row l.sum l.a

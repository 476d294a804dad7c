-- The costs so far and those of the segments from a on make the whole.
use Rattle.pairs.proofs.FillLaws as laws
use Rattle.pairs.proofs.fill.fill_costs.Given as goal

abbrev pub invariant-loop-a : goal.invariant-loop-a
invariant-loop-a l = laws.Gathering l.segments l.costs l.a

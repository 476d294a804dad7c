use Rattle.pairs.proofs.FillLaws as laws
use Rattle.pairs.proofs.fill.fill_costs.Goals as goal

pub loop-a-preserved : goal.loop-a-preserved
loop-a-preserved c = laws.gathering-more _ _ _ c.loop-a.invariant c.requires.few_ends _ _ c.loop-a-test.true c.count_after.ensures

pub returns : goal.returns
returns c = laws.gathering-end _ _ _ c.loop-a.invariant c.requires.few_ends c.loop-a-test.false

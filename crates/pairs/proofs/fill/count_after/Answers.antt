use Rattle.pairs.proofs.FillLaws as laws
use Rattle.pairs.proofs.fill.count_after.Goals as goal

pub count_pair-requires-clause-up_to : goal.count_pair-requires-clause-up_to
count_pair-requires-clause-up_to c = laws.counting-room _ _ _ _ _ c.loop-other.invariant c.requires.few_ends c.requires.up_to

pub loop-other-preserved : goal.loop-other-preserved
loop-other-preserved c = laws.counting_more _ _ _ _ _ c.loop-other.invariant _ _ c.loop-other-test.true c.count_pair.ensures

pub returns : goal.returns
returns c = laws.counting-end _ _ _ _ _ c.loop-other.invariant c.loop-other-test.false c.requires.few_ends

use Rattle.passes.proofs.PlaceLaws as laws
use Rattle.passes.proofs.place_row.Goals as goal

pub loop-i-preserved : goal.loop-i-preserved
loop-i-preserved c = laws.storing-turn c.loop-i.invariant c.loop-i-test.true

pub returns : goal.returns
returns c = laws.storing-end c.loop-i.invariant c.loop-i-test.false

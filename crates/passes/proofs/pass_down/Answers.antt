use native.Mathlib.Omega.{arith}
use Rattle.passes.proofs.PassLaws as laws
use Rattle.passes.proofs.KeptLaws.{work-same, work-again}
use Rattle.passes.proofs.pass_down.Goals as goal

pub loop-r-init : goal.loop-r-init
loop-r-init c = (laws.down-starts, work-same)

pub settle_row-requires-clause-standing : goal.settle_row-requires-clause-standing
settle_row-requires-clause-standing c = laws.going-stands c.requires (c.loop-r.invariant.0.going c.requires.near c.requires.ends) c.loop-r.invariant.1.totals_kept c.loop-r.invariant.1.moved_kept

pub loop-r-preserved : goal.loop-r-preserved
loop-r-preserved c = (laws.down-goes c.loop-r.invariant.0 (omega (arith, c.loop-r-test.true)) c.settle_row.ensures.changed, work-again c.loop-r.invariant.1 c.settle_row.ensures.work_kept)

pub returns-clause-changed : goal.returns-clause-changed
returns-clause-changed c = laws.down_ends c.loop-r.invariant.0 (omega (arith, c.loop-r-test.false))

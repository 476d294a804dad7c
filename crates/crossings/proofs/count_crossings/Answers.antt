use native.Mathlib.Omega.{arith}
use Rattle.crossings.proofs.CountLaws as laws
use Rattle.crossings.proofs.count_crossings.Goals as goal

pub loop-r-init : goal.loop-r-init
loop-r-init c = (omega arith, laws.rowed-none _ _ _ _ _ _)

pub overflow_add-sum : goal.overflow_add-sum
overflow_add-sum c = let more = laws.rowed-on c.loop-r.auto.r c.loop-r.invariant.1 c.count_row-sum.ensures in
    omega (arith, laws.rowed-room more c.requires.lists (omega (arith, c.loop-r-test.true, c.loop-r.auto.r)))

pub loop-r-preserved : goal.loop-r-preserved
loop-r-preserved c = (omega (arith, c.loop-r-test.true), laws.rowed-on c.loop-r.auto.r c.loop-r.invariant.1 c.count_row-sum.ensures)

pub returns : goal.returns
returns c = laws.rowed-end c.loop-r.invariant.1 (omega (arith, c.loop-r.auto.r, c.loop-r.invariant.0, c.loop-r-test.false))

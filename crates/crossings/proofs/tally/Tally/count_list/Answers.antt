use native.Mathlib.Omega.{arith}
use Rattle.crossings.proofs.CountListLaws as laws
use Rattle.crossings.proofs.tally.Tally.count_list.Goals as goal

pub overflow_add-sum : goal.overflow_add-sum
overflow_add-sum c = let e = c.args.ends.now.placed in let more = laws.list-more e c.loop-x.invariant c.loop-x-test.true c.count_right-sum.ensures in
    omega (arith, laws.list-room more (laws.few-list e c.requires) c.args.self.now.few)

pub loop-x-preserved : goal.loop-x-preserved
loop-x-preserved c = laws.list-more c.args.ends.now.placed c.loop-x.invariant c.loop-x-test.true c.count_right-sum.ensures

pub returns : goal.returns
returns c = laws.list-end c.args.ends.now.placed c.loop-x.invariant c.loop-x-test.false

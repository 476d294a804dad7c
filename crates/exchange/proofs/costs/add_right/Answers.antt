use native.Mathlib.Omega.{arith}
use Rattle.exchange.proofs.SumLaws as laws
use Rattle.exchange.proofs.costs.add_right.Goals as goal

pub overflow_add-sum : goal.overflow_add-sum
overflow_add-sum g c =
    let e = c.requires.1.1.1.1.0 _ _ _ c.requires.1.0 (c.requires.1.1.0.points _ c.loop-y-test.true) c.cost-sum.ensures in
    omega (arith, laws.adding-room _ _ _ _ _ (laws.adding-more _ _ _ _ _ c.loop-y.invariant _ c.loop-y-test.true e) c.requires.1.1.0.few c.requires.1.1.1.1.1)

pub loop-y-preserved : goal.loop-y-preserved
loop-y-preserved g c =
    laws.adding-more _ _ _ _ _ c.loop-y.invariant _ c.loop-y-test.true
    (c.requires.1.1.1.1.0 _ _ _ c.requires.1.0 (c.requires.1.1.0.points _ c.loop-y-test.true) c.cost-sum.ensures)

pub returns : goal.returns
returns g c = laws.adding-end _ _ _ _ _ c.loop-y.invariant c.loop-y-test.false

use mathlib.Core.Path.{ap, ◌∙◌}
use Prim.Native.Nat.{◌+◌}
use native.Mathlib.Omega.{arith}
use lib.ListN.{get_or}
use Rattle.std.proofs.lemmas.List.{take_rest}
use Rattle.exchange.specs.Costs.{cost_with}
use Rattle.exchange.proofs.SumLaws as laws
use Rattle.exchange.proofs.costs.add_pairs.Goals as goal

pub overflow_add-sum : goal.overflow_add-sum
overflow_add-sum g c =
    let e = c.add_right-sum.ensures ∙ ap (cost_with g.c (get_or c.args.row.now c.loop-a.a 0)) (take_rest c.args.row.now (c.loop-a.a + 1)) in
    omega (arith, laws.totalling-room _ _ _ _ (laws.totalling-more _ _ _ _ c.loop-a.invariant _ c.loop-a-test.true e) c.requires.1.0.few c.requires.1.1.1.1)

pub loop-a-preserved : goal.loop-a-preserved
loop-a-preserved g c =
    laws.totalling-more _ _ _ _ c.loop-a.invariant _ c.loop-a-test.true
    (c.add_right-sum.ensures ∙ ap (cost_with g.c (get_or c.args.row.now c.loop-a.a 0)) (take_rest c.args.row.now (c.loop-a.a + 1)))

pub returns : goal.returns
returns g c = laws.totalling-end _ _ _ _ c.loop-a.invariant c.loop-a-test.false

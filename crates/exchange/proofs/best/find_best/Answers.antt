use mathlib.Core.Path.{refl}
use native.Mathlib.Omega.{arith}
use Rattle.exchange.proofs.TurnLaws as laws
use Rattle.exchange.proofs.best.find_best.Goals as goal

pub loop-init : goal.loop-init
loop-init c = (laws.trying_start _ _ _ _ _ c.requires.row_points c.copy_from_slice.ensures.after c.add_up-total.ensures, refl, refl)

pub returns-in_default : goal.returns-in_default
returns-in_default c = laws.trying-last _ _ _ _ _ _ _ _ c.loop.invariant.0 c.loop-test.true c.in_default.ensures

pub loop-preserved : goal.loop-preserved
loop-preserved c = (laws.trying-more _ _ _ _ _ _ _ _ c.loop.invariant.0 _ _ _ _ c.loop-test.true c.move_on-total.ensures c.keep_fewer-fewest.ensures, omega (arith, c.loop.invariant.1, c.move_on-total.auto), omega (arith, c.loop.invariant.2, c.keep_fewer-fewest.auto))

pub returns : goal.returns
returns c = laws.trying-end _ _ _ _ _ _ _ _ c.loop.invariant.0 c.loop-test.false

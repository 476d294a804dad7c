-- The cost of the points that move is exchanged; that of the others stays.
use native.Mathlib.Omega.{arith}
use Rattle.exchange.proofs.TurnLaws as laws
use Rattle.exchange.proofs.best.move_on.Goals as goal

pub add_up-after-requires : goal.add_up-after-requires
add_up-after-requires c = laws.after-points _ _ _ _ _ c.requires.cost_is c.advance.ensures

pub overflow_add-result : goal.overflow_add-result
overflow_add-result c = omega (arith, laws.moved-room _ _ _ _ _ _ _ c.requires.cost_is c.advance.ensures c.args.costs.now.priced c.add_up-before.ensures c.add_up-after.ensures)

pub overflow_sub-result : goal.overflow_sub-result
overflow_sub-result c = omega (arith, laws.moved-room _ _ _ _ _ _ _ c.requires.cost_is c.advance.ensures c.args.costs.now.priced c.add_up-before.ensures c.add_up-after.ensures)

pub returns : goal.returns
returns c = laws.moved _ _ _ _ _ _ _ c.requires.cost_is c.advance.ensures c.args.costs.now.priced c.add_up-before.ensures c.add_up-after.ensures

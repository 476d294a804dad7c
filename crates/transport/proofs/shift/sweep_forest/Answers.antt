use Rattle.std.proofs.Common.{rules}
use Rattle.transport.proofs.shift.sweep_forest.Goals as goal

pub loop-v-init : goal.loop-v-init
loop-v-init c = (c.requires.flows, search rules)

pub move_up-requires-clause-flows : goal.move_up-requires-clause-flows
move_up-requires-clause-flows c = c.loop-v.invariant.0

pub loop-v-preserved : goal.loop-v-preserved
loop-v-preserved c = (c.move_up.ensures.flows, search rules)

pub returns-clause-flows : goal.returns-clause-flows
returns-clause-flows c = c.loop-v.invariant.0

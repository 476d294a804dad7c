use Rattle.transport.proofs.ShiftLaws as laws
use native.Mathlib.Omega.{arith}
use Rattle.transport.proofs.shift.move_up.Goals as goal

pub returns-then-a-rows-clause-flows : goal.returns-then-a-rows-clause-flows
returns-then-a-rows-clause-flows c =
    laws.cancels _ _ _ _ _ _ c.args.rows.now.arcs.shaped c.requires.weight_bound _ _ _ c.requires.flows _ (omega (arith, c.if-v-rows.false)) _ _
    c.cancel_at.ensures.cancels

pub hand_over-requires-clause-flows : goal.hand_over-requires-clause-flows
hand_over-requires-clause-flows c = laws.cancels _ _ _ _ _ _ c.args.rows.now.arcs.shaped c.requires.weight_bound _ _ _ c.requires.flows _ (omega (arith, c.if-v-rows.false)) _ _
    c.cancel_at.ensures.cancels

use Rattle.std.proofs.Common.{rules}
use Rattle.transport.proofs.ShiftLaws as laws
use Rattle.transport.proofs.shift.hand_over.Goals as goal

pub returns-then-f-v-clause-flows : goal.returns-then-f-v-clause-flows
returns-then-f-v-clause-flows c =
    let h = c.requires.a_in_bounds in
    let w = c.requires.weight_bound in
    let k = c.args.rows.now.arcs.shaped in
    let r = laws.supply-on _ _ _ _ _ _ k w _ _ _ c.requires.flows _ h (search rules) _ _ c.carry_on.ensures in
    laws.demand-back _ _ _ _ _ _ k w _ _ _ r _ h _ _ c.carry_back.ensures

pub returns-clause-flows : goal.returns-clause-flows
returns-clause-flows c =
    let h = c.requires.a_in_bounds in
    let w = c.requires.weight_bound in
    let k = c.args.rows.now.arcs.shaped in
    let r = laws.supply-back _ _ _ _ _ _ k w _ _ _ c.requires.flows _ h _ _ c.carry_back-2.ensures in
    laws.demand-on _ _ _ _ _ _ k w _ _ _ r _ h (search rules) _ _ c.carry_on-2.ensures

pub carry_back-requires-clause-xs_bound : goal.carry_back-requires-clause-xs_bound
carry_back-requires-clause-xs_bound c =
    let h = c.requires.a_in_bounds in
    let w = c.requires.weight_bound in
    let k = c.args.rows.now.arcs.shaped in
    let r = laws.supply-on _ _ _ _ _ _ k w _ _ _ c.requires.flows _ h (search rules) _ _ c.carry_on.ensures in
    laws.demand-few _ _ _ _ _ _ k w _ _ _ r

pub carry_on-requires-2-clause-xs_bound : goal.carry_on-requires-2-clause-xs_bound
carry_on-requires-2-clause-xs_bound c =
    let h = c.requires.a_in_bounds in
    let w = c.requires.weight_bound in
    let k = c.args.rows.now.arcs.shaped in
    let r = laws.supply-back _ _ _ _ _ _ k w _ _ _ c.requires.flows _ h _ _ c.carry_back-2.ensures in
    laws.demand-few _ _ _ _ _ _ k w _ _ _ r

pub carry_on-requires-2-clause-xs_bound_2 : goal.carry_on-requires-2-clause-xs_bound_2
carry_on-requires-2-clause-xs_bound_2 c =
    let h = c.requires.a_in_bounds in
    let w = c.requires.weight_bound in
    let k = c.args.rows.now.arcs.shaped in
    let r = laws.supply-back _ _ _ _ _ _ k w _ _ _ c.requires.flows _ h _ _ c.carry_back-2.ensures in
    laws.demand-fits _ _ _ _ _ _ k w _ _ _ r _

use Rattle.std.proofs.Common.{rules}
use native.Mathlib.Omega.{arith}
use Rattle.transport.proofs.LoadLaws.{Loading}
use Rattle.transport.proofs.LoadLaws as laws
use Rattle.transport.proofs.load.load_edges.Goals as goal

pub loop-e-init : goal.loop-e-init
loop-e-init c = (
  laws.loading-start _ _ _ _ _ _ c.args.rows.now.arcs.shaped c.requires.weight_len c.requires.weight_bound _ _ _ c.requires.flow_value
      c.requires.supply_value c.requires.demand_value c.requires.held,
  search rules,
)

pub loop-e-preserved : goal.loop-e-preserved
loop-e-preserved c = (
  laws.loading-turn _ _ _ _ _ _ c.args.rows.now.arcs.shaped c.requires.weight_len c.requires.weight_bound _ _ _ _ c.loop-e.invariant.0 (omega arith) _ _ _
      c.load_edge.ensures.loads,
  search rules,
)

pub load_edge-requires-clause-e_bound : goal.load_edge-requires-clause-e_bound
load_edge-requires-clause-e_bound c =
    (laws.load_fits _ _ _ _ _ _ c.args.rows.now.arcs.shaped c.requires.weight_len c.requires.weight_bound _ _ _ _ c.loop-e.invariant.0 _ (omega arith)).0

pub load_edge-requires-clause-e_bound_2 : goal.load_edge-requires-clause-e_bound_2
load_edge-requires-clause-e_bound_2 c =
    (laws.load_fits _
    _ _ _ _ _ c.args.rows.now.arcs.shaped c.requires.weight_len c.requires.weight_bound _ _ _ _ c.loop-e.invariant.0 _ (omega arith)).1

pub load_edge-requires-clause-supply_len : goal.load_edge-requires-clause-supply_len
load_edge-requires-clause-supply_len c = c.loop-e.invariant.0.flows.supply_long

pub load_edge-requires-clause-demand_len : goal.load_edge-requires-clause-demand_len
load_edge-requires-clause-demand_len c = c.loop-e.invariant.0.flows.demand_long

pub returns-clause-flows : goal.returns-clause-flows
returns-clause-flows c = laws.loading-ends _ _ _ _ _ _ c.args.rows.now.arcs.shaped c.requires.weight_len c.requires.weight_bound _ _ _ _ c.loop-e.invariant.0 (omega arith)

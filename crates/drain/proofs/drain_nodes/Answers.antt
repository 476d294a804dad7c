use mathlib.Core.Path.{sym, ap, subst}
use Prim.Native.Nat.{ℕ, ◌<◌}
use native.Mathlib.Omega.{arith}
use Rattle.buffers.specs.Lists.{sum}
use Rattle.drain.proofs.DriveLaws as laws
use Rattle.drain.proofs.drain_nodes.Goals as goal

pub drain_node-requires-clause-s_lt_n : goal.drain_node-requires-clause-s_lt_n
drain_node-requires-clause-s_lt_n c =
    omega (arith, (c.find_supply.ensures.some _ c.in-Some.is).0, c.loop-s.invariant.0.flows.supply_long)

pub loop-s-smaller : goal.loop-s-smaller
loop-s-smaller c =
    let found = c.find_supply.ensures.some _ c.in-Some.is in
    subst (λ (x : ℕ). x < sum c.loop-s.stock.supply.now) (sym (ap sum c.drain_node.ensures.drained.empty)) (laws.sum-clear _ _ found.0 found.1)

pub returns-clause-drained : goal.returns-clause-drained
returns-clause-drained c = laws.calm-ends _ _ _ _ _ _ _ _ _ _ _ _ _ _ c.loop-s.invariant.0 c.find_supply.ensures c.in_default.is

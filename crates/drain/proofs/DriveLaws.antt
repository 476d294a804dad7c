-- The loop over the nodes.
use mathlib.Core.Path.{◌≡◌, ap, ◌∙◌}
use mathlib.Core.List.{List}
use Rattle.std.specs.Prelude.{Option, None}
use Prim.Native.Nat.{ℕ, ◌+◌, ◌-◌, ◌<◌}
use native.Mathlib.Decide.{ℕ_discrete}
use native.Mathlib.Omega.{arith}
use lib.ListN.{length, set}
use Rattle.graph.specs.Rows.{at}
use Rattle.buffers.specs.Lists.{sum}
use Rattle.transport.proofs.SumLaws.{sum-sub, sum-none}
use Rattle.transport.proofs.FlowLaws.{owed_none}
use Rattle.drain.specs.Drain.{Calm, Picks, NextSupply, DrainedAll}

-- Of the first k + 1 nodes the one is found that was found before, or node k.
pub found_turn : (k : ℕ) (supply : List ℕ) (best r : Option ℕ) → NextSupply k supply best → Picks best k (at supply k) r
    → NextSupply (k + 1) supply r
found_turn k supply best r f (Picks.same e z) = rw e (record {
  none = λ le v b. go le v b (ℕ_discrete v k);
  some = λ s q. let w : (s < k) × (0 < at supply s) = f.some s q in (omega arith, w.1);
})
  where
    go : best ≡ None → (v : ℕ) → v < k + 1 → Dec (v ≡ k) → at supply v ≡ 0
    go le v b (yes q) = ap (at supply) q ∙ z le
    go le v b (no ne) = f.none le v (omega (arith, ne))
found_turn k supply best r f (Picks.other e u) = rw e (record {
  none = λ le v b. cc;
  some = λ s q. let w : k ≡ s = cc in rw (← w) (omega arith, u);
})

pub sum-clear : (supply : List ℕ) (s : ℕ) → s < length supply → 0 < at supply s → sum (set supply s 0) < sum supply
sum-clear supply s h u = omega (arith, ap (λ (x : ℕ). sum (set supply s x)) (gone (at supply s)), sum-sub supply s (at supply s) h (omega arith))
  where
    gone : (x : ℕ) → x - x ≡ 0
    gone x = omega arith

pub calm-ends : (from to gap weight : List ℕ) (n : ℕ) (old y flow supply demand rank parent capacity : List ℕ) (s : Option ℕ)
    → Calm from to gap weight n old y flow supply demand rank parent capacity
    → NextSupply (length supply) supply s → s ≡ None → DrainedAll from to gap weight n old y flow supply demand
calm-ends from to gap weight n old y flow supply demand rank parent capacity s a f le = record {
  supply_long = a.flows.supply_long;
  demand_long = a.flows.demand_long;
  flow_long = a.flows.flow_long;
  held = a.flows.held;
  balance = owed_none from to flow weight supply demand a.flows.owed (sum-none supply (λ i b. f.none le i b));
  low = a.low;
  long = a.long;
  rest = a.rest;
  y_long = a.lengths.y_long;
}

-- The edges of a chart lead down, one by one.
use mathlib.Core.List.{List}
use Prim.Native.Nat.{ℕ, ◌<◌}
use native.Mathlib.Omega.{arith}
use lib.ListN.{length, get_or, length-map, get_or-map}
use Rattle.graph.specs.declared.Edge.{Edge}
use Rattle.graph.specs.Rows.{no_edge}
use Rattle.points.specs.Laying.{Chart}
use Rattle.points.proofs.PointLaws.{tails, heads}
use Rattle.points.proofs.NeighbourLaws.{Leads, AllLead}

module _ (ys : List ℕ) (edges : List Edge) (c : Chart ys (tails edges) (heads edges)) where
  lead : (i : ℕ) → i < length edges → Leads ys (get_or edges i no_edge)
  lead i h =
      let tails-long = length-map edges (λ (e : Edge). e.from) in
      let tail-is = get_or-map (λ (e : Edge). e.from) edges i no_edge in
      let head-is = get_or-map (λ (e : Edge). e.to) edges i no_edge in
      record {
        tail_node = omega (arith, tail-is, c.from_in.below i (omega (arith, tails-long)));
        head_node = omega (arith, head-is, c.to_in.below i (omega (arith, tails-long, c.to_long)));
        down = rw (← tail-is, ← head-is) (c.down i (omega (arith, tails-long)));
      }

  pub chart-lead : AllLead ys edges
  chart-lead = record { leads = lead }

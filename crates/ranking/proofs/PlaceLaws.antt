-- Fair edges in flat slices: the loop finder and the solver take them, and what these answer is the outcome.
use mathlib.Core.Path.{◌≡◌, refl, sym, ap, subst}
use mathlib.Core.List.{List, []}
use Prim.Native.Nat.{ℕ, ◌≤◌, ◌<◌}
use native.Mathlib.Decide.{dec_lt}
use native.Mathlib.Omega.{arith}
use lib.ListN.{length, get_or-eq_default}
use Rattle.std.specs.Prelude.{Option, Some, None, Err}
use Rattle.graph.specs.declared.Edge.{Edge}
use Rattle.graph.specs.Rows.{at, Best, Within}
use Rattle.graph.proofs.BoundLaws.{best-is-rows_of}
use Rattle.relaxation.specs.Limits.{gap_limit, weight_limit, row_limit}
use Rattle.buffers.specs.Lists.{sum}
use Rattle.buffers.proofs.SumLaws.{sum_low}
use Rattle.relaxation.specs.Network.{edges_of, Network, Bounded}
use Rattle.relaxation.proofs.EdgesLaws.{length-edges_of, edge_at}
use Rattle.outcome.specs.declared.Refusal.TheVariants.{Loop}
use Rattle.table.specs.Limits.{max_steps, max_edges, max_gap, max_weight}
use Rattle.outcome.specs.Refusal.{done}
use Rattle.table.specs.Fair.{FairEdge}
use Rattle.acyclic.specs.Ends.{NodeEnds, Gaps}
use Rattle.acyclic.specs.Loops.{FoundIs, LowRows}
use Rattle.rows.specs.Answers.{rows_found}
use Rattle.flatten.specs.Even.{Even}
use Rattle.rows.specs.Limits.{top_row}
use Rattle.rows.specs.Placed.{FairEdges, EdgesPlaced}
use Rattle.acyclic.proofs.BoundLaws.{low-rows-at}
use Rattle.acyclic.proofs.FoundLaws.{found-weighted, found-computes}

-- ---- flat slices of fair edges

module _ (from to gap weight : List ℕ) (n : ℕ) (fair : FairEdges n (edges_of from to gap weight)) (even : Even from to gap weight) where
  abbrev edges : List Edge
  edges = edges_of from to gap weight

  pub fair-edge : (i : ℕ) → i < length from → FairEdge n (record { from = at from i; to = at to i; gap = at gap i; weight = at weight i })
  fair-edge i h = subst (FairEdge n) (edge_at from to gap weight i h) (fair.each i (omega (arith, length-edges_of from to gap weight)))

  pub fair-few : length from ≤ max_edges
  fair-few = omega (arith, length-edges_of from to gap weight, fair.few_edges)

  pub fair-within : Within n edges
  fair-within i b = ((fair.each i b).from_in, (fair.each i b).to_in)

  pub fair-ends : NodeEnds n from to
  fair-ends = record { to_long = even.to_long; from_in = λ i h. (fair-edge i h).from_in; to_in = λ i h. (fair-edge i h).to_in }

  pub fair-gaps : Gaps (length from) gap
  fair-gaps = record { long = even.gap_long; positive = λ i h. (fair-edge i h).gap_some }

  gap-narrow : (i : ℕ) → at gap i < gap_limit
  gap-narrow i = go (dec_lt i (length from))
    where
      go : Dec (i < length from) → at gap i < gap_limit
      go (yes h) = omega (arith, (fair-edge i h).gap_low)
      go (no h) = omega (arith, get_or-eq_default gap 0 (past h))
        where
          past : (i < length from → ⊥) → length gap ≤ i
          past h = omega (arith, even.gap_long)

  weights-few : sum weight < weight_limit
  weights-few =
      omega (arith, sum_low weight max_weight (λ i b. (fair-edge i (omega (arith, even.weight_long))).weight_low), even.weight_long, fair-few)

  pub fair-network : Network from to gap weight n
  fair-network =
      record {
        shape = record { to_long = even.to_long; gap_long = even.gap_long; from_in = λ i h. (fair-edge i h).from_in; to_in = λ i h. (fair-edge i h).to_in };
        weight_long = even.weight_long;
        weights = weights-few;
        narrow = record { few = omega (arith, fair.few_steps); gaps = gap-narrow };
      }

  module _ (r : Option ℕ) (found : FoundIs n (edges_of from to gap []) r) where
    weighted : FoundIs n edges r
    weighted = found-weighted n from to gap weight r fair-ends found

    pub placed-loop : {s : ℕ} → r ≡ Some s → EdgesPlaced n edges (Err (Loop s))
    unfolding rows_found
    placed-loop {s} e = record { says = rw (found-computes n edges fair-within (Some s) (subst (FoundIs n edges) e weighted)) refl; placed = tt }

    module _ (e : r ≡ None) where
      free : FoundIs n edges None
      free = subst (FoundIs n edges) e weighted

      low : LowRows n edges top_row
      low = low-rows-at n edges fair-within free.0 max_steps max_gap fair.few_steps (λ i b. (fair.each i b).gap_low)

      pub fair-bounded : Bounded from to gap n row_limit
      fair-bounded =
          record {
            rows = low.rows;
            kept = λ i h. rw (edge_at from to gap weight i h) at (low.kept i (omega (arith, length-edges_of from to gap weight)));
            low = λ v h. omega (arith, low.low v h);
          }

      pub placed-free : (rows : List ℕ) → Best n edges rows → done rows ≡ rows_found n edges
      unfolding rows_found
      placed-free rows best = rw (found-computes n edges fair-within None free) (ap done (sym (best-is-rows_of n edges rows fair-within best)))

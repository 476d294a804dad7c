-- Best rows of fair edges can be summed: no edge points up, and every number is within the limits.
use mathlib.Core.Path.{◌≡◌, sym, ap, subst, ◌∙◌}
use mathlib.Core.List.{List}
use Prim.Native.Nat.{ℕ, ◌+◌, ◌≤◌, ◌<◌}
use native.Mathlib.Omega.{arith}
use lib.ListN.{length, get_or, take}
use Rattle.graph.specs.declared.Edge.{Edge}
use Rattle.graph.specs.Rows.{at, no_edge, Kept, Best}
use Rattle.relaxation.specs.Network.{edges_of}
use Rattle.relaxation.proofs.EdgesLaws.{length-edges_of, edge_at}
use Rattle.acyclic.specs.Ends.{NodeEnds}
use Rattle.flatten.specs.Even.{Even}
use Rattle.rows.specs.Placed.{FairEdges, RowsSummable}
use Rattle.rows.proofs.PlacedLaws.{best-low}
use Rattle.ranking.proofs.PlaceLaws.{fair-few, fair-ends, fair-edge}

-- best rows in the first entries of an array, cut off there
pub kept-best : {n : ℕ} {edges : List Edge} {y all rows : List ℕ} → Best n edges (take n y) → all ≡ y → rows ≡ take n all → Best n edges rows
kept-best {n} {edges} best e f = subst (Best n edges) (sym (f ∙ ap (take n) e)) best

module _ (from to gap weight : List ℕ) (n : ℕ) (fair : FairEdges n (edges_of from to gap weight)) (even : Even from to gap weight) where
  pub best-summable : (rows : List ℕ) → Best n (edges_of from to gap weight) rows → RowsSummable from to weight rows
  best-summable rows best =
      record {
        ends = ends;
        weight_long = even.weight_long;
        few = fair-few from to gap weight n fair even;
        weights = λ i h. (fair-edge from to gap weight n fair even i h).weight_low;
        kept = λ i h.
            omega (arith, lower i h (best.feasible i (omega (arith, length-edges_of from to gap weight))));
        low = λ v h. (best-low n (edges_of from to gap weight) rows fair best).each v;
      }
    where
      ends : NodeEnds (length rows) from to
      ends = rw best.one_a_node (fair-ends from to gap weight n fair even)

      lower : (i : ℕ) → i < length from → Kept (at rows) (get_or (edges_of from to gap weight) i no_edge) → at rows (at from i) + at gap i ≤ at rows (at to i)
      lower i h k = rw (edge_at from to gap weight i h) at k

-- The must edges as the loop finder takes them.
use mathlib.Core.Path.{◌≡◌, sym, ap, subst}
use mathlib.Core.List.{List, []}
use Prim.Native.Nat.{ℕ, ◌<◌}
use native.Mathlib.Omega.{arith}
use Rattle.std.specs.Prelude.{Option}
use lib.ListN.{length, get_or}
use Rattle.graph.specs.declared.Edge.{Edge}
use Rattle.graph.specs.declared.TableEdge.{TableEdge}
use Rattle.graph.specs.Rows.{no_edge, Within}
use Rattle.relaxation.specs.Network.{edges_of}
use Rattle.relaxation.proofs.EdgesLaws.{edge_at}
use Rattle.table.specs.Fair.{FairEdge}
use Rattle.acyclic.specs.Ends.{Gaps}
use Rattle.acyclic.specs.Loops.{FoundIs, lowest_on_loop}
use Rattle.acyclic.specs.Oriented.{must_of}
use Rattle.acyclic.proofs.FoundLaws.{found-weighted, found-computes, shaped-ends}
use Rattle.acyclic.proofs.OrientedLaws.{must-each}
use Rattle.flatten.specs.Even.{Even}
use Rattle.flatten.proofs.FlattenLaws.{flat-long, flat-shaped}
use Rattle.orientation.specs.Orientable.{Orientable}

module _ {n : ℕ} {edges : List TableEdge} (o : Orientable n edges) where
  must-fair : (j : ℕ) → j < length (must_of edges) → FairEdge n (get_or (must_of edges) j no_edge)
  must-fair = must-each (FairEdge n) edges (λ i h f. o.each i h)

  within : Within n (must_of edges)
  within j h = ((must-fair j h).from_in, (must-fair j h).to_in)

  -- flat lists that hold them
  module _ (from to gap weight : List ℕ) (even : Even from to gap weight) (same : edges_of from to gap weight ≡ must_of edges) where
    pub must-within : Within n (edges_of from to gap weight)
    must-within = subst (Within n) (sym same) within

    pub must-gaps : Gaps (length from) gap
    must-gaps =
        record {
          long = even.gap_long;
          positive = λ i h. omega (
            arith,
            ap (λ (e : Edge). e.gap) (edge_at from to gap weight i h),
            ap (λ (l : List Edge). (get_or l i no_edge).gap) same,
            (must-fair i (omega (arith, ap length same, flat-long from to gap weight, h))).gap_some,
          );
        }

    pub must-found : (r : Option ℕ) → FoundIs n (edges_of from to gap []) r → r ≡ lowest_on_loop n (must_of edges)
    must-found r f =
        sym (found-computes n (must_of edges) within r (subst (λ (l : List Edge). FoundIs n l r) same
        (found-weighted n from to gap weight r (shaped-ends (flat-shaped from to gap weight n even must-within)) f)))

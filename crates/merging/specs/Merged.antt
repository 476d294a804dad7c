-- Repeated edges (document 02, request 6): edges with equal ends, as the table has them, and equal firmness are drawn as one line. A line
-- is called a merged edge here, since `lines` are those of a listing. Rows and totals are the same for merged edges as for the edges that
-- they stand for: proofs/SameLaws.antt.
use Rattle.std.specs.Prelude.{Bool, true, false, ◌&&◌, not, cond, List, [], ◌∷◌, ◌++◌, map, ℕ, suc, ◌+◌, max, eqb, get_or}
use Rattle.graph.specs.declared.Edge.{Edge}
use Rattle.graph.specs.declared.TableEdge.{TableEdge}
use Rattle.graph.specs.Directed.{directed}
use Rattle.merging.specs.declared.MergedEdge.{MergedEdge}

-- what stands past the end of a list of merged edges
abbrev pub no_merged_edge : MergedEdge
no_merged_edge = record { from = 0; to = 0; gap = 0; soft = false; first = 0; weight = 0 }

-- ---- which edges are drawn as one

-- an edge has these ends in the table, and this firmness
unfoldable pub has_ends : ℕ → ℕ → Bool → TableEdge → Bool
has_ends from to soft e = eqb from e.from && eqb to e.to && cond soft e.soft (not e.soft)

-- two edges are drawn as one
abbrev pub alike : TableEdge → TableEdge → Bool
alike d e = has_ends d.from d.to d.soft e

-- those of the edges that are drawn as one with e
unfoldable pub like : TableEdge → List TableEdge → List TableEdge
like e [] = []
like e (d ∷ edges) = let rest = like e edges in cond (alike e d) (d ∷ rest) rest

-- none of the edges is
unfoldable pub none_like : TableEdge → List TableEdge → Bool
none_like e [] = true
none_like e (d ∷ edges) = not (alike e d) && none_like e edges

-- ---- merged edges

-- the largest gap of edges, and their weights added
unfoldable pub largest_gap : List TableEdge → ℕ
largest_gap [] = 0
largest_gap (e ∷ edges) = max e.gap (largest_gap edges)

unfoldable pub added_weight : List TableEdge → ℕ
added_weight [] = 0
added_weight (e ∷ edges) = e.weight + added_weight edges

-- Edge i, which is e, merged with those of a table's edges that are drawn as one with it: it is the first of them.
abbrev pub merged_at : List TableEdge → ℕ → TableEdge → MergedEdge
merged_at edges i e =
    record {
      from = e.from;
      to = e.to;
      gap = largest_gap (like e edges);
      soft = e.soft;
      first = i;
      weight = added_weight (like e edges);
    }

-- Of a table's edges, `all`, those from number i on, behind the edges `before`: one merged edge for each that is the first of its like.
unfoldable pub merged_from : List TableEdge → List TableEdge → ℕ → List TableEdge → List MergedEdge
merged_from all before i [] = []
merged_from all before i (e ∷ edges) =
    let rest = merged_from all (before ++ e ∷ []) (suc i) edges in cond (none_like e before) (merged_at all i e ∷ rest) rest

-- a table's edges as they are drawn, in the order of their first ones
unfoldable pub merged : List TableEdge → List MergedEdge
merged edges = merged_from edges [] 0 edges

-- ---- merged edges as edges

abbrev pub as_edge : MergedEdge → Edge
as_edge e = record { from = e.from; to = e.to; gap = e.gap; weight = e.weight }

-- kept or turned as its first edge is; the others are too (proofs/TurnedLaws.antt)
abbrev pub drawn_edge : List Bool → MergedEdge → Edge
drawn_edge turned e = directed (get_or turned e.first false) (as_edge e)

unfoldable pub drawn_edges : List Bool → List MergedEdge → List Edge
drawn_edges turned edges = map (drawn_edge turned) edges

-- Edges that may give way (document 02, request 1): each soft edge is kept or turned, so that no loop is left.
use Rattle.std.specs.Prelude.{Bool, false, ◌&&◌, ◌||◌, not, cond, List, [], ◌∷◌, map, ℕ, ltb}
use Rattle.graph.specs.declared.Edge.{Edge}
use Rattle.graph.specs.declared.TableEdge.{TableEdge}
use Rattle.graph.specs.Rows.{at, no_edge}
use Rattle.graph.specs.Directed.{own_edge, directed}
use Rattle.acyclic.specs.Loops.{reached}

-- an edge in the direction that it gets, and whether that is not its own
pub record OrientedEdge : Type 0 where
  pub edge : Edge
  pub turned : Bool

-- what stands past the end of a list of them
abbrev pub no_oriented_edge : OrientedEdge
no_oriented_edge = record { edge = no_edge; turned = false }

-- kept, or turned: its ends are exchanged, and its gap and its weight stay
abbrev pub orient : Bool → Edge → OrientedEdge
orient turned e = record { edge = directed turned e; turned = turned }

-- the must edges
unfoldable pub must_of : List TableEdge → List Edge
must_of [] = []
must_of (e ∷ edges) = let rest = must_of edges in cond e.soft rest (own_edge e ∷ rest)

-- some edge is soft
unfoldable pub any_soft : List TableEdge → Bool
any_soft [] = false
any_soft (e ∷ edges) = e.soft || any_soft edges

-- whether a walk over the edges leads from s to v, of n nodes
unfoldable pub leads : ℕ → List Edge → ℕ → ℕ → Bool
leads n edges s v = ltb 0 (at (reached n edges s) v)

-- a soft edge is turned where a walk over the edges that stand leads from its head to its tail: there it would close a loop
unfoldable pub turns : ℕ → List Edge → TableEdge → Bool
turns n stand e = e.soft && leads n stand e.to e.from

-- the edges that stand after it: a soft edge that is kept joins them; a must edge is among them already
unfoldable pub stand_after : Bool → TableEdge → List Edge → List Edge
stand_after turned e stand = cond (e.soft && not turned) (own_edge e ∷ stand) stand

-- edges taken in turn, where some stand already
unfoldable pub oriented_from : ℕ → List Edge → List TableEdge → List OrientedEdge
oriented_from n stand [] = []
oriented_from n stand (e ∷ edges) =
    let turned = turns n stand e in orient turned (own_edge e) ∷ oriented_from n (stand_after turned e stand) edges

-- A table's edges for n nodes, each kept or turned, at its own number. All must edges stand from the start. The soft ones are taken in the
-- table's order, and one is kept exactly where it closes no loop with the must edges and the soft ones that were kept before it.
unfoldable pub oriented : ℕ → List TableEdge → List OrientedEdge
oriented n edges = oriented_from n (must_of edges) edges

-- the edges as they are kept or turned: rows, points and demand 3 are of these
abbrev pub oriented_edges : ℕ → List TableEdge → List Edge
oriented_edges n edges = map (λ (e : OrientedEdge). e.edge) (oriented n edges)

-- and which of them were turned
abbrev pub turned_edges : ℕ → List TableEdge → List Bool
turned_edges n edges = map (λ (e : OrientedEdge). e.turned) (oriented n edges)

-- those that were kept
unfoldable pub kept_of : List OrientedEdge → List Edge
kept_of [] = []
kept_of (e ∷ edges) = let rest = kept_of edges in cond e.turned rest (e.edge ∷ rest)

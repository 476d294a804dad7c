-- A table's edges, of which some are turned.
use Rattle.std.specs.Prelude.{Bool, false, cond, get_or}
use mathlib.Core.List.{List, [], ◌∷◌, map, tail}
use Rattle.graph.specs.declared.Edge.{Edge}
use Rattle.graph.specs.declared.TableEdge.{TableEdge}

-- what stands past the end of a list of a table's edges
abbrev pub no_table_edge : TableEdge
no_table_edge = record { from = 0; to = 0; gap = 0; weight = 0; soft = false }

-- an edge without its firmness
abbrev pub own_edge : TableEdge → Edge
own_edge e = record { from = e.from; to = e.to; gap = e.gap; weight = e.weight }

abbrev pub plain_edges : List TableEdge → List Edge
plain_edges edges = map own_edge edges

-- an edge with its ends exchanged, and nothing else
abbrev pub turn : Edge → Edge
turn e = record { from = e.to; to = e.from; gap = e.gap; weight = e.weight }

-- as it is, or turned
abbrev pub directed : Bool → Edge → Edge
directed turned e = cond turned (turn e) e

-- each edge as its flag says
unfoldable pub directed_by : List Bool → List TableEdge → List Edge
directed_by flags [] = []
directed_by flags (e ∷ edges) = directed (get_or flags 0 false) (own_edge e) ∷ directed_by (tail flags) edges

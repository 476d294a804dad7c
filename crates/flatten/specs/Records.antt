-- Edges as they are lent, and which of them are copied to flat lists.
use Rattle.std.specs.Prelude.{cond, List, [], ◌∷◌, ℕ, leb, length}
use Rattle.graph.specs.declared.Edge.{Edge}
use Rattle.table.specs.Limits.{max_edges}

-- the edges of a list of numbers, four to an edge: from, to, gap, weight. Fewer than four left over are no edge
unfoldable pub records_of : List ℕ → List Edge
records_of [] = []
records_of (f ∷ []) = []
records_of (f ∷ t ∷ []) = []
records_of (f ∷ t ∷ g ∷ []) = []
records_of (f ∷ t ∷ g ∷ w ∷ l) = record { from = f; to = t; gap = g; weight = w } ∷ records_of l

-- which of the edges are copied: all, or none where there are too many
unfoldable pub copied : List Edge → List Edge
copied edges = cond (leb (length edges) max_edges) edges []

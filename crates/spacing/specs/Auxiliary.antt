-- The auxiliary network: its best rows, at the points, are the best x (proofs/BestLaws.antt). Its nodes are the n points, and behind them
-- one for each segment.
use Rattle.std.specs.Prelude.{List, [], ◌∷◌, ◌++◌, ℕ, suc, ◌+◌, length}
use Rattle.graph.specs.declared.Edge.{Edge}
use Rattle.spacing.specs.Coordinates.{Costed}

-- a point stands 1 right of its left neighbour, or farther, at no cost
abbrev pub beside : ℕ → ℕ → Edge
beside p q = record { from = p; to = q; gap = 1; weight = 0 }

-- the node of a segment stands nowhere right of an end, and its distance from it costs what the segment costs
abbrev pub pull : ℕ → ℕ → ℕ → Edge
pull a p cost = record { from = a; to = p; gap = 0; weight = cost }

-- one edge for each two neighbours in a row that starts with p
unfoldable pub row_edges : ℕ → List ℕ → List Edge
row_edges p [] = []
row_edges p (q ∷ row) = beside p q ∷ row_edges q row

unfoldable pub one_row : List ℕ → List Edge
one_row [] = []
one_row (p ∷ row) = row_edges p row

-- and in all rows
unfoldable pub order_edges : List (List ℕ) → List Edge
order_edges [] = []
order_edges (row ∷ order) = one_row row ++ order_edges order

-- two edges for each segment, from its own node to both its ends; the nodes are numbered from a on
unfoldable pub pull_edges : ℕ → List Costed → List Edge
pull_edges a [] = []
pull_edges a (s ∷ costed) = pull a s.upper s.cost ∷ pull a s.lower s.cost ∷ pull_edges (suc a) costed

unfoldable pub aux : ℕ → List (List ℕ) → List Costed → List Edge
aux n order costed = order_edges order ++ pull_edges n costed

-- how many nodes it has
abbrev pub aux_nodes : ℕ → List Costed → ℕ
aux_nodes n costed = n + length costed

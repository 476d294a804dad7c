-- The auxiliary network in flat lists, as the code builds it.
use Rattle.std.specs.Prelude.{◌≡◌, cond, ℕ, zero, suc, ◌≤◌, ◌<◌, eqb, length, take}
use mathlib.Core.List.{List, [], ◌∷◌, ◌++◌, flatten, tail}
use Rattle.graph.specs.declared.Edge.{Edge}
use Rattle.graph.specs.Rows.{at}
use Rattle.buffers.specs.Lists.{Below, occurs}
use Rattle.spacing.specs.Limits.{max_xs, max_segments, max_nodes, cost_limit}
use Rattle.spacing.specs.Coordinates.{Costed, row_in, BestX}
use Rattle.spacing.specs.Auxiliary.{beside}
use Rattle.spacing.specs.Trial.{xs_of}

-- segments by the lists of their ends and costs
unfoldable pub costed_of : List ℕ → List ℕ → List ℕ → List Costed
costed_of [] lower cost = []
costed_of (u ∷ upper) lower cost = record { upper = u; lower = at lower 0; cost = at cost 0 } ∷ costed_of upper (tail lower) (tail cost)

-- the edge of two points that follow each other in a flat order, if they stand in one row
abbrev pub beside_if : List ℕ → ℕ → ℕ → List Edge
beside_if row p q = cond (eqb (at row p) (at row q)) (beside p q ∷ []) []

-- those of its first i + 1 points
unfoldable pub besides : List ℕ → List ℕ → ℕ → List Edge
besides row order zero = []
besides row order (suc i) = besides row order i ++ beside_if row (at order i) (at order (suc i))

-- An order in one flat list, its rows one behind the other; `row` has the row of each point. No point stands twice in a row.
pub record Ordered (o : List (List ℕ)) (row order : List ℕ) : Type 0 where
  pub flat : order ≡ flatten o
  pub rows : (r i : ℕ) → r < length o → i < length (row_in o r) → at row (at (row_in o r) i) ≡ r
  pub points_in : (r i : ℕ) → r < length o → i < length (row_in o r) → at (row_in o r) i < length order
  pub once : (r i : ℕ) → r < length o → i < length (row_in o r) → occurs (at (row_in o r) i) (row_in o r) ≡ 1

-- segments between n points, by the lists of their ends and costs
pub record Priced (n : ℕ) (upper lower cost : List ℕ) : Type 0 where
  pub lower_long : length lower ≡ length upper
  pub cost_long : length cost ≡ length upper
  pub upper_in : Below n upper
  pub lower_in : Below n lower
  pub cost_low : Below cost_limit cost
  pub few : length upper ≤ max_segments

-- what gets an x: some order of few points, and few segments between them
pub record Spaceable (order row upper lower cost : List ℕ) : Type 0 where
  pub o : List (List ℕ)
  pub ordered : Ordered o row order
  pub points_in : Below (length row) order
  pub priced : Priced (length order) upper lower cost
  pub few : length order ≤ max_xs

-- The best x of the points in the first entries of an array, whatever rows the flat list stands for; each is below the number of points.
pub record FoundX (order row upper lower cost xs : List ℕ) : Type 0 where
  pub best : (o : List (List ℕ)) → Ordered o row order → BestX (length order) o (costed_of upper lower cost) (take (length order) xs)
  pub is : (o : List (List ℕ)) → Ordered o row order → xs_of (length order) o (costed_of upper lower cost) ≡ take (length order) xs
  pub low : (p : ℕ) → p < length order → at xs p < length order
  pub long : length xs ≡ max_nodes

-- What the functions behind the x of a chart ask for and answer.
use Rattle.std.specs.Prelude.{◌≡◌, cond, ℕ, suc, ◌*◌, ◌≤◌, ◌<◌, eqb, length, take}
use mathlib.Core.List.{List, [], ◌∷◌, ◌++◌, flatten, map, tail}
use Rattle.graph.specs.declared.Edge.{Edge}
use Rattle.graph.specs.Rows.{at}
use Rattle.graph.specs.Search.{run}
use Rattle.points.specs.Points.{between}
use Rattle.points.specs.Laying.{Chart}
use Rattle.fewest.specs.Fewest.{drawing_of}
use Rattle.table.specs.Limits.{max_edges}
use Rattle.merging.specs.Merging.{max_added}
use Rattle.flatten.specs.Flat.{Flat}
use Rattle.flatten.specs.Flat.{flat_edges}
use Rattle.ordering.specs.Calls.{point_count}
use Rattle.spacing.specs.Limits.{max_xs, max_nodes, plain_factor, end_factor, inner_factor}
use Rattle.coordinates.specs.Calls.{ChartX, chart_xs}

-- the factor of segment j of a line with k dummies: it starts at a step where it is the first, and ends at one where it is the last
abbrev pub factor_at : ℕ → ℕ → ℕ
factor_at j k = cond (eqb j 0) (cond (eqb j k) plain_factor end_factor) (cond (eqb j k) end_factor inner_factor)

-- the costs of its segments, downwards
unfoldable pub line_costs : ℕ → ℕ → List ℕ
line_costs weight k = map (λ j. weight * factor_at j k) (run 0 (suc k))

-- and of those of all edges
unfoldable pub costs_from : List ℕ → List Edge → List ℕ
costs_from ys [] = []
costs_from ys (e ∷ edges) = line_costs e.weight (between ys e) ++ costs_from ys edges

-- edges by their ends and weights alone: gaps play no part in costs
unfoldable pub lines_of : List ℕ → List ℕ → List ℕ → List Edge
lines_of [] to weight = []
lines_of (a ∷ from) to weight = record { from = a; to = at to 0; gap = 0; weight = at weight 0 } ∷ lines_of from (tail to) (tail weight)

-- weights of which none is more than all edges of a table have together
pub record Light (weight : List ℕ) : Type 0 where
  pub low : (i : ℕ) → i < length weight → at weight i ≤ max_added

-- lines between steps in the rows ys, and the order that their chart is drawn in
pub record Lined (ys : List ℕ) (ends : Flat) (order : List ℕ) : Type 0 where
  pub chart : Chart ys ends.from.items ends.to.items
  pub few_lines : length ends.from.items ≤ max_edges
  pub light : Light ends.weight.items
  pub order_is : order ≡ flatten (drawing_of ys (flat_edges ends)).order
  pub few : point_count ys (flat_edges ends) ≤ max_xs

-- edges that have the ends and the weights of a flat list, and any gaps
pub record Split (edges : List Edge) (ends : Flat) : Type 0 where
  pub tails : ends.from.items ≡ map (λ (e : Edge). e.from) edges
  pub heads : ends.to.items ≡ map (λ (e : Edge). e.to) edges
  pub weights : ends.weight.items ≡ map (λ (e : Edge). e.weight) edges

-- the best x of their chart in the first entries of an array, whatever edges have these ends and weights; each is below the number of points
pub record LinesSpaced (ys : List ℕ) (ends : Flat) (order xs : List ℕ) : Type 0 where
  pub best : (drawn : List Edge) → Split drawn ends → ChartX ys drawn (take (point_count ys drawn) xs)
  pub is : (drawn : List Edge) → Split drawn ends → chart_xs ys drawn ≡ take (point_count ys drawn) xs
  pub low : (p : ℕ) → p < length order → at xs p < length order
  pub long : length xs ≡ max_nodes

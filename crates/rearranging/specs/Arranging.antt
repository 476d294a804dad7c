-- What the functions behind the call ask for and answer.
use Rattle.std.specs.Prelude.{◌≡◌, ℕ, ◌≤◌, ◌<◌, map, length, Result}
use mathlib.Core.List.{List, flatten}
use Rattle.graph.specs.declared.Edge.{Edge}
use Rattle.outcome.specs.declared.Refusal.{Refusal}
use Rattle.table.specs.Limits.{max_edges}
use Rattle.points.specs.Limits.{max_points}
use Rattle.points.specs.Points.{Segment, row_count}
use Rattle.points.specs.Laying.{Chart}
use Rattle.fewest.specs.Fewest.{drawing_of}
use Rattle.ordering.specs.Calls.{point_count}
use Rattle.reordering.specs.Stacked.{Stacked}
use Rattle.rearranging.specs.declared.RowFigures.{RowFigures}
use Rattle.rearranging.specs.Calls.{unless_wide, chart_arranged, order_end, order_numbers}

-- two lists are the ends of edges
pub record EndsOf (edges : List Edge) (from to : List ℕ) : Type 0 where
  pub tails : from ≡ map (λ (e : Edge). e.from) edges
  pub heads : to ≡ map (λ (e : Edge). e.to) edges

-- Lines between steps in the rows ys, by the lists of their ends, the order that their chart is drawn in, and one of its rows that is not
-- row 0.
pub record Arrangeable (ys from to order : List ℕ) (r : ℕ) : Type 0 where
  pub drawn : List Edge
  pub ends : EndsOf drawn from to
  pub few_edges : length drawn ≤ max_edges
  pub chart : Chart ys from to
  pub order_is : order ≡ flatten (drawing_of ys drawn).order
  pub few : point_count ys drawn ≤ max_points
  pub above : 0 < r
  pub tall : r < row_count ys

-- the answer and the buffer, whatever edges have these ends
pub record RowEnded (ys from to : List ℕ) (r tries : ℕ) (old new : List ℕ) (a : Result RowFigures Refusal) : Type 0 where
  pub numbers : (drawn : List Edge) → EndsOf drawn from to → order_numbers a ≡ (order_end (chart_arranged ys drawn r tries) old).numbers
  pub order_is : (drawn : List Edge) → EndsOf drawn from to → new ≡ (order_end (chart_arranged ys drawn r tries) old).order

-- the same, whatever chart the flat lists stand for
pub record LaidEnded (row upper lower order : List ℕ) (r tries : ℕ) (old new : List ℕ) (a : Result RowFigures Refusal) : Type 0 where
  pub numbers : (o : List (List ℕ)) (segs : List Segment) → Stacked o segs row upper lower order r → order_numbers a ≡ (order_end (unless_wide row segs o r tries) old).numbers
  pub order_is : (o : List (List ℕ)) (segs : List Segment) → Stacked o segs row upper lower order r → new ≡ (order_end (unless_wide row segs o r tries) old).order

-- The order of a chart: of the start and the results of eight passes the first with fewest crossings.
use Rattle.std.specs.Prelude.{cond, List, [], ◌∷◌, map, ℕ, ltb}
use Rattle.graph.specs.declared.Edge.{Edge}
use Rattle.points.specs.Points.{Segment, point_rows, segments, row_count}
use Rattle.passes.specs.Order.{start_order, results, downward}
use Rattle.crossings.specs.Crossings.{crossings}

-- an order and its crossings
pub record Drawing : Type 0 where
  pub order : List (List ℕ)
  pub crossings : ℕ

unfoldable pub drawn : List ℕ → List Segment → List (List ℕ) → Drawing
drawn ys segs order = record { order = order; crossings = crossings ys segs order }

-- the first with fewest, of one and those after it
unfoldable pub fewest : Drawing → List Drawing → Drawing
fewest best [] = best
fewest best (d ∷ ds) = fewest (cond (ltb d.crossings best.crossings) d best) ds

-- down and up, four times each
abbrev pub pass_count : ℕ
pass_count = 8

unfoldable pub best_order : ℕ → List ℕ → List Segment → Drawing
best_order count ys segs =
    let start = start_order count ys in
    fewest (drawn ys segs start) (map (drawn ys segs) (results segs ys pass_count downward start))

-- the drawing of rows, one a node, and edges
unfoldable pub drawing_of : List ℕ → List Edge → Drawing
drawing_of ys edges = best_order (row_count ys) (point_rows ys edges) (segments ys edges)

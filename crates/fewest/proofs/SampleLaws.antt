-- The sample of document 01, computed from the definitions: its order and its crossings.
use mathlib.Core.Path.{◌≡◌, refl}
use mathlib.Core.List.{[], ◌∷◌}
use Prim.Native.Nat.{ℕ}
use Rattle.graph.specs.declared.Edge.{Edge}
use Rattle.graph.specs.Search.{run}
use Rattle.points.specs.Points.{dummies, point_rows, chain, segments_from, segments, row_count}
use Rattle.buffers.specs.Lists.{sum}
use Rattle.barycentre.specs.Means.{mean_of, insert, sort_onto, moving, fill, reorder}
use Rattle.passes.specs.Order.{points_in, start_order, settle_row, down_from, up_from, results}
use Rattle.points.specs.Positions.{position, place}
use Rattle.barycentre.specs.PointEnds.{ends}
use Rattle.crossings.specs.Crossings.{crossings_with, crossing_pairs, crossings}
use Rattle.fewest.specs.Fewest.{drawn, fewest, best_order, drawing_of}

abbrev edge : ℕ → ℕ → ℕ → ℕ → Edge
edge a b g w = record { from = a; to = b; gap = g; weight = w }

-- its rows are 0 1 3 2: edges 1 and 2 have a dummy each, the points 4 and 5
pub sample-drawing : drawing_of (0 ∷ 1 ∷ 3 ∷ 2 ∷ []) (edge 0 1 1 1 ∷ edge 1 2 2 3 ∷ edge 0 3 1 1 ∷ edge 3 2 1 5 ∷ [])
    ≡ record { order = (0 ∷ []) ∷ (1 ∷ 5 ∷ []) ∷ (4 ∷ 3 ∷ []) ∷ (2 ∷ []) ∷ []; crossings = 0 }
unfolding run dummies point_rows chain segments_from segments row_count sum mean_of insert sort_onto moving fill reorder points_in start_order position place ends settle_row down_from up_from results crossings_with crossing_pairs crossings drawn fewest best_order drawing_of
sample-drawing = refl

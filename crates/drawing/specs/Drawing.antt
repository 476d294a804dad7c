-- What drawing a chart asks of its input.
use Rattle.std.specs.Prelude.{List, ℕ, ◌≤◌, length}
use Rattle.table.specs.Limits.{max_edges}
use Rattle.points.specs.Limits.{max_points}
use Rattle.points.specs.Points.{point_rows}
use Rattle.buffers.specs.Lists.{Below}
use Rattle.points.specs.Laying.{edges_between}

-- few enough points, edges and rows
pub record Drawable (ys from to : List ℕ) : Type 0 where
  pub few_points : length (point_rows ys (edges_between from to)) ≤ max_points
  pub few_edges : length from ≤ max_edges
  pub few_rows : Below max_points ys

-- What the function that makes a stroke answers.
use Rattle.std.specs.Prelude.{◌≡◌, List, ℕ}
use Rattle.graph.specs.Rows.{at}
use Rattle.points.specs.Points.{point_rows}
use Rattle.graph.specs.declared.Edge.{Edge}
use Rattle.flatten.specs.Flat.{Flat}
use Rattle.coordinates.specs.Calls.{ChartX, chart_xs}
use Rattle.coordinates.specs.Costing.{Split}
use Rattle.corners.specs.declared.Stroke.{Stroke}
use Rattle.corners.specs.Corners.{Stands}
use Rattle.corners.specs.Strokes.{end_of}
use Rattle.routes.specs.declared.Visit.{Visit}
use Rattle.strokes.specs.Calls.{stroke_of}

-- A visit as a stroke by the best x and the rows of a chart, whatever edges have these ends and weights.
pub record StrokePlaced (ys : List ℕ) (ends : Flat) (v : Visit) (s : Stroke) : Type 0 where
  pub is : (drawn : List Edge) → Split drawn ends → s ≡ stroke_of (chart_xs ys drawn) (point_rows ys drawn) v
  pub stands : (drawn : List Edge) → Split drawn ends → Stands (end_of s) (at (chart_xs ys drawn) v.point) (at (point_rows ys drawn) v.point)
  pub best : (drawn : List Edge) → Split drawn ends → ChartX ys drawn (chart_xs ys drawn)

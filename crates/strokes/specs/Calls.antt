-- The stroke at an index: what the call answers.
use Rattle.std.specs.Prelude.{List, map, ℕ, length, get_or, slice_get, Option, Some, None, Result, Ok, Err}
use Rattle.graph.specs.Rows.{at, Best}
use Rattle.outcome.specs.Refusal.{Outcome, done, refused, then_do}
use Rattle.table.specs.Table.{Contents, contents_of, read}
use Rattle.layering.specs.Calls.{oriented_in, turned_in}
use Rattle.points.specs.Points.{point_rows}
use Rattle.merging.specs.Merged.{merged}
use Rattle.ordering.specs.Calls.{drawn_in, Placing, chart_of_table}
use Rattle.coordinates.specs.Calls.{ChartX, chart_xs, unless_past, rows_held}
use Rattle.corners.specs.declared.Corner.{Corner}
use Rattle.corners.specs.declared.Stroke.{Stroke}
use Rattle.corners.specs.Corners.{Stands}
use Rattle.corners.specs.Strokes.{end_of, stroke_to}
use Rattle.routes.specs.declared.Visit.{Visit}
use Rattle.outcome.specs.declared.Refusal.{Refusal}
use Rattle.routes.specs.Routes.{no_visit, visits_from}

-- the visits of a table with its rows: dummies are numbered on from the steps
abbrev pub visits_of : List ℕ → Contents → List Visit
visits_of rows t = visits_from rows (turned_in t) (length rows) (merged t.edges)

-- a visit as a stroke, by the x and the row of each point
abbrev pub stroke_of : List ℕ → List ℕ → Visit → Stroke
stroke_of xs rows v = stroke_to v.start (at xs v.point) (at rows v.point)

-- all strokes of a table with its rows, for the x of its points
unfoldable pub strokes_of : Placing → List ℕ → List Stroke
strokes_of p xs = map (stroke_of xs (point_rows p.rows (drawn_in p.contents))) (visits_of p.rows p.contents)

-- of the bytes of a table: refused as the call for x is, but for its buffer
unfoldable pub strokes_of_table : List ℕ → Outcome (List Stroke)
strokes_of_table bytes = then_do (chart_of_table bytes) λ p. then_do (unless_past p) λ s. done (strokes_of p s.xs)

-- the one at an index from 0, or none
abbrev pub stroke_at : Outcome (List Stroke) → ℕ → Result (Option Stroke) Refusal
stroke_at (done strokes) i = Ok (slice_get strokes i)
stroke_at (refused r) i = Err r

unfoldable pub stroke_call : List ℕ → ℕ → Result (Option Stroke) Refusal
stroke_call bytes i = stroke_at (strokes_of_table bytes) i

-- ---- nothing is rounded, and nobody can do better

-- the point that the stroke at an index goes to, of a table with its rows
abbrev pub point_at : List ℕ → Contents → ℕ → ℕ
point_at rows t i = (get_or (visits_of rows t) i no_visit).point

-- A corner is exactly where the stroke at an index is to end: where its point belongs by its x and its row, and both are the best.
pub record CornerExact (rows : List ℕ) (t : Contents) (i : ℕ) (c : Corner) : Type 0 where
  pub stands : Stands c (at (chart_xs rows (drawn_in t)) (point_at rows t i)) (at (point_rows rows (drawn_in t)) (point_at rows t i))
  pub best_x : ChartX rows (drawn_in t) (chart_xs rows (drawn_in t))
  pub best_rows : Best (length t.steps) (oriented_in t) rows

-- of an answer, for the table that bytes write down
abbrev pub AnswerExact : List ℕ → ℕ → Result (Option Stroke) Refusal → Type 0
AnswerExact bytes i (Ok (Some s)) = CornerExact (rows_held bytes) (contents_of (read bytes)) i (end_of s)
AnswerExact bytes i (Ok None) = Unit {0}
AnswerExact bytes i (Err r) = Unit {0}

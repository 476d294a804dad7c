-- The strokes of a table with a chart: how many there are, and that those of a line go from row to neighbouring row.
use mathlib.Core.Path.{◌≡◌, ◌∙◌}
use mathlib.Core.Bool.{false}
use mathlib.Core.List.{List}
use Rattle.std.specs.Prelude.{Some, None, slice_get}
use Rattle.std.proofs.lemmas.Option.{slice_get_past}
use Prim.Native.Nat.{ℕ, suc, ◌+◌, ◌*◌, ◌≤◌}
use native.Mathlib.Omega.{arith}
use lib.ListN.{length, length-map}
use Rattle.graph.specs.Rows.{at, Best}
use Rattle.outcome.specs.Refusal.{done}
use Rattle.table.specs.Limits.{max_edges}
use Rattle.table.specs.Table.{Contents, read}
use Rattle.layering.specs.Calls.{oriented_in, turned_in}
use Rattle.layering.proofs.CallLaws.{read-oriented}
use Rattle.points.specs.Points.{point_rows, segments}
use Rattle.points.proofs.PointLaws.{points-length, segments-length}
use Rattle.points.proofs.NeighbourLaws.{AllLead}
use Rattle.merging.specs.Merged.{merged}
use Rattle.merging.proofs.FirstLaws.{merged-few}
use Rattle.merging.proofs.SameLaws.{drawn-length}
use Rattle.ordering.specs.Calls.{drawn_in, Placing, point_count}
use Rattle.ordering.proofs.ChartLaws.{chart-of}
use Rattle.ordering.proofs.DrawnLaws.{drawn-among}
use Rattle.spacing.specs.Limits.{max_xs}
use Rattle.routes.specs.declared.Visit.{Visit}
use Rattle.strokes.specs.Calls.{visits_of, stroke_of, strokes_of}
use Rattle.routes.proofs.LeadLaws.{chart-lead}
use Rattle.routes.proofs.RouteLaws.{strokes-counted}
use Rattle.routes.proofs.RowLaws.{Neighbouring, strokes-neighbour}

-- ---- how many

module _ (p : Placing) (xs : List ℕ) where
  -- as many as the segments of its lines and the lines together
  pub strokes-count : length (strokes_of p xs) ≡ length (segments p.rows (drawn_in p.contents)) + length (merged p.contents.edges)
  unfolding strokes_of
  strokes-count =
      length-map (visits_of p.rows p.contents) (stroke_of xs (point_rows p.rows (drawn_in p.contents)))
      ∙ strokes-counted p.rows (turned_in p.contents) (merged p.contents.edges)

  -- none has an index from their number on
  pub strokes-end : (i : ℕ) → length (strokes_of p xs) ≤ i → slice_get (strokes_of p xs) i ≡ None
  strokes-end i h = slice_get_past (strokes_of p xs) i h

  -- and they are few, where the chart gets an x: a line has a segment more than it has dummies
  pub strokes-few : length p.contents.edges ≤ max_edges → point_count p.rows (drawn_in p.contents) ≤ max_xs → length (strokes_of p xs) ≤ max_xs + 2 * max_edges
  unfolding segments
  strokes-few few_edges few_points =
      omega (
        arith,
        strokes-count,
        segments-length p.rows (length p.rows) (drawn_in p.contents),
        points-length p.rows (drawn_in p.contents),
        drawn-length (turned_in p.contents) (merged p.contents.edges),
        merged-few p.contents.edges,
      )

-- ---- from row to row

-- a table that was read, and best rows of its edges, as those of its chart are
module _ (bytes : List ℕ) {t : Contents} (said : read bytes ≡ done t) (rows : List ℕ) (best : Best (length t.steps) (oriented_in t) rows) where
  drawn-lead : AllLead rows (drawn_in t)
  drawn-lead = chart-lead rows (drawn_in t) (chart-of (length t.steps) (oriented_in t) (read-oriented bytes said) rows best (drawn_in t) (drawn-among t))

  -- A line stroke starts where the stroke before it ended, and ends in a neighbouring row.
  pub strokes-joined : (i : ℕ) (v w : Visit) → slice_get (visits_of rows t) i ≡ Some v → slice_get (visits_of rows t) (suc i) ≡ Some w → w.start ≡ false
      → Neighbouring (at (point_rows rows (drawn_in t)) v.point) (at (point_rows rows (drawn_in t)) w.point)
  strokes-joined = strokes-neighbour rows (turned_in t) (merged t.edges) drawn-lead

-- The stroke to a point of a chart, from the x and the rows that were laid in arrays.
use mathlib.Core.Path.{◌≡◌, refl, sym, ap, subst, ◌∙◌}
use mathlib.Core.List.{List}
use Prim.Native.Nat.{ℕ, ◌-◌, ◌<◌}
use native.Mathlib.Omega.{arith}
use lib.ListN.{length, replicate}
use lib.Seq.{get_or-take}
use Rattle.graph.specs.declared.Edge.{Edge}
use Rattle.graph.specs.Rows.{at}
use Rattle.buffers.specs.Lists.{Below}
use Rattle.buffers.specs.Written.{Stored}
use Rattle.buffers.proofs.ListLaws.{at_low}
use Rattle.flatten.specs.Flat.{Flat}
use Rattle.flatten.specs.Flat.{flat_edges}
use Rattle.points.specs.Points.{point_rows}
use Rattle.points.specs.Laying.{edges_between}
use Rattle.points.proofs.PointLaws.{tails, any-points}
use Rattle.points.proofs.RowCountLaws.{count_low}
use Rattle.fewest.proofs.CompleteLaws.{drawing-count, points-below}
use Rattle.drawing.proofs.DrawLaws.{stored-part, stored-count}
use Rattle.ordering.specs.Calls.{point_count}
use Rattle.ordering.proofs.SplitLaws.{flat-tails, flat-heads}
use Rattle.spacing.specs.Limits.{max_xs}
use Rattle.coordinates.specs.Calls.{ChartX, chart_xs}
use Rattle.coordinates.specs.Costing.{Lined, Split, LinesSpaced}
use Rattle.coordinates.proofs.SpaceLaws.{rows_room, rows-alike}
use Rattle.corners.specs.declared.Stroke.{Stroke}
use Rattle.corners.specs.Corners.{max_place, Stands}
use Rattle.corners.specs.Strokes.{end_of, stroke_to}
use Rattle.routes.specs.declared.Visit.{Visit}
use Rattle.strokes.specs.Placing.{StrokePlaced}

module _ (ys : List ℕ) (ends : Flat) (order : List ℕ) (h : Lined ys ends order) where
  abbrev drawn : List Edge
  drawn = flat_edges ends

  count_of : length order ≡ point_count ys drawn
  count_of = ap length h.order_is ∙ drawing-count ys drawn

  -- the point of a visit is one of few
  pub point_few : (v : Visit) → v.point < length order → v.point < max_xs
  point_few v inside = omega (arith, count_of, h.few)

  module _ (row : List ℕ) (p : ℕ) (s : Stored (replicate max_xs 0) 0 (point_rows ys (edges_between ends.from.items ends.to.items)) row p) where
    rows_of : point_rows ys (edges_between ends.from.items ends.to.items) ≡ point_rows ys drawn
    rows_of =
        ap (λ (l : List ℕ). point_rows ys (edges_between l ends.to.items)) (flat-tails ends refl)
        ∙ ap (λ (l : List ℕ). point_rows ys (edges_between (tails drawn) l)) (flat-heads ends refl)
        ∙ any-points ys drawn

    module _ (q : ℕ) (inside : q < length order) where
      in-points : q < point_count ys drawn
      in-points = omega (arith, count_of)

      -- the row of a point is the one that was laid
      row_at : at row q ≡ at (point_rows ys drawn) q
      row_at =
          let laid = stored-part s (rows_room ys ends order h) ∙ rows_of in
          let below : q < p = omega (arith, in-points, stored-count s (rows_room ys ends order h), ap length laid) in
          sym (get_or-take p row q 0 below) ∙ ap (λ (l : List ℕ). at l q) laid

      -- and its x is the best one
      module _ (edges : List Edge) (same : Split edges ends) where
        x-at : (xs : List ℕ) → LinesSpaced ys ends order xs → at xs q ≡ at (chart_xs ys edges) q
        x-at xs f =
            let inside : q < point_count ys edges = omega (arith, in-points, ap length (rows-alike ys ends edges same)) in
            sym (ap (λ (l : List ℕ). at l q) (f.is edges same) ∙ get_or-take (point_count ys edges) xs q 0 inside)

        row-of-edges : at row q ≡ at (point_rows ys edges) q
        row-of-edges = row_at ∙ ap (λ (l : List ℕ). at l q) (rows-alike ys ends edges same)

    module _ (low : Below max_place ys) (v : Visit) (inside : v.point < length order) where
      -- both are small
      pub row_low : at row v.point < max_place
      row_low =
          omega (
            arith,
            row_at v.point inside,
            (points-below ys drawn).below v.point (in-points v.point inside),
            count_low (max_place - 1) ys (λ i. omega (arith, at_low max_place ys (omega arith) low i)),
          )

      pub x_low : (xs : List ℕ) → LinesSpaced ys ends order xs → at xs v.point < max_place
      x_low xs f = omega (arith, f.low v.point inside, count_of, h.few)

      pub stroke-placed : (xs : List ℕ) → LinesSpaced ys ends order xs → (r : Stroke) → r ≡ stroke_to v.start (at xs v.point) (at row v.point)
          → Stands (end_of r) (at xs v.point) (at row v.point) → StrokePlaced ys ends v r
      stroke-placed xs f r e stands =
          record {
            is = λ edges t. rw (← x-at v.point inside edges t xs f, ← row-of-edges v.point inside edges t) e;
            stands = λ edges t. rw (← x-at v.point inside edges t xs f, ← row-of-edges v.point inside edges t) stands;
            best = λ edges t. subst (ChartX ys edges) (sym (f.is edges t)) (f.best edges t);
          }

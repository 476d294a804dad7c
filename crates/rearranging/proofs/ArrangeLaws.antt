-- What is laid of a chart's lines are the flat lists that the search takes.
use mathlib.Core.Path.{◌≡◌, refl, sym, ap, ◌∙◌}
use mathlib.Core.List.{List, flatten}
use Prim.Native.Nat.{ℕ, suc, ◌≤◌, ◌<◌}
use native.Mathlib.Omega.{arith}
use lib.ListN.{length, take, replicate, length-map, length-replicate}
use Rattle.graph.specs.declared.Edge.{Edge}
use Rattle.graph.specs.Rows.{at}
use Rattle.buffers.specs.Written.{Stored}
use Rattle.points.specs.Limits.{max_points}
use Rattle.points.specs.Points.{Segment, point_rows, segments}
use Rattle.points.specs.Laying.{edges_between, uppers, lowers}
use Rattle.points.proofs.PointLaws.{any-points, any-segments, points-length, segments-length}
use Rattle.points.proofs.NeighbourLaws.{uppers-in, lowers-in, neighbours, chart-leads}
use Rattle.fewest.specs.Fewest.{Drawing, drawing_of}
use Rattle.fewest.proofs.CompleteLaws.{drawing-rows, drawing-once, drawing-none, drawing-count}
use Rattle.rooms.specs.Rooms.{segment_room}
use Rattle.drawing.proofs.DrawLaws.{stored-part, stored-within, stored-count}
use Rattle.ordering.proofs.ChartLaws.{drawing-of-ends}
use Rattle.reordering.specs.Stacked.{Stacked, Stack}
use Rattle.std.specs.Prelude.{Result}
use Rattle.outcome.specs.declared.Refusal.{Refusal}
use Rattle.table.specs.Limits.{max_edges}
use Rattle.rearranging.specs.declared.RowFigures.{RowFigures}
use Rattle.rearranging.specs.Calls.{unless_wide, order_end}
use Rattle.rearranging.specs.Arranging.{EndsOf, Arrangeable, RowEnded, LaidEnded}

module _ {ys from to order : List ℕ} {r : ℕ} (h : Arrangeable ys from to order r) where
  -- ---- edges with these ends

  module _ (drawn : List Edge) (ends : EndsOf drawn from to) where
    points-same : point_rows ys (edges_between from to) ≡ point_rows ys drawn
    points-same = rw (ends.tails, ends.heads) (any-points ys drawn)

    segments-same : segments ys (edges_between from to) ≡ segments ys drawn
    segments-same = rw (ends.tails, ends.heads) (any-segments ys drawn)

    drawing-same : drawing_of ys (edges_between from to) ≡ drawing_of ys drawn
    drawing-same = rw (ends.tails, ends.heads) (drawing-of-ends ys drawn)

    drawn-few : length (segments ys drawn) ≤ segment_room max_points
    unfolding segments
    drawn-few =
        omega (
          arith,
          segments-length ys (length ys) drawn,
          points-length ys drawn,
          ap length (sym points-same ∙ points-of-own),
          h.few,
          few-ends,
        )
      where
        few-ends : length drawn ≤ max_edges
        few-ends =
            omega (
              arith,
              ap length (sym ends.tails ∙ h.ends.tails),
              length-map drawn (λ (e : Edge). e.from),
              length-map h.drawn (λ (e : Edge). e.from),
              h.few_edges,
            )

        points-of-own : point_rows ys (edges_between from to) ≡ point_rows ys h.drawn
        points-of-own = rw (h.ends.tails, h.ends.heads) (any-points ys h.drawn)

  -- the chart that they make
  module _ (drawn : List Edge) (ends : EndsOf drawn from to) where
    order-of : order ≡ flatten (drawing_of ys drawn).order
    order-of = h.order_is ∙ ap (λ (d : Drawing). flatten d.order) (sym (drawing-same h.drawn h.ends) ∙ drawing-same drawn ends)

    down : (j : ℕ) → j < length (segments ys drawn)
        → at (point_rows ys drawn) (at (lowers (segments ys drawn)) j) ≡ suc (at (point_rows ys drawn) (at (uppers (segments ys drawn)) j))
    down = rw (← points-same drawn ends, ← segments-same drawn ends) (neighbours ys (edges_between from to) (chart-leads h.chart))

    pub chart-stacked : Stacked (drawing_of ys drawn).order (segments ys drawn) (point_rows ys drawn) (uppers (segments ys drawn)) (lowers (segments ys drawn)) order r
    chart-stacked =
        record {
          flat = order-of;
          long = ap length order-of ∙ drawing-count ys drawn;
          once = λ q t l. drawing-once ys drawn q t l;
          none = λ q t l. drawing-none ys drawn q t l;
          uppers_are = refl;
          lowers_are = refl;
          upper_in = rw (← points-same drawn ends, ← segments-same drawn ends) (uppers-in ys (edges_between from to) (chart-leads h.chart));
          lower_in = rw (← points-same drawn ends, ← segments-same drawn ends) (lowers-in ys (edges_between from to) (chart-leads h.chart));
          down = λ j l. down j (omega (arith, length-map (segments ys drawn) (λ (g : Segment). g.upper))) ∙ omega arith;
          few_points = omega (arith, ap length (sym (points-same h.drawn h.ends) ∙ points-same drawn ends), h.few);
          few_segments = omega (arith, drawn-few drawn ends, length-map (segments ys drawn) (λ (g : Segment). g.upper));
          above = h.above;
          tall = omega (arith, drawing-rows ys drawn, h.tall);
        }

  abbrev row_zeros : List ℕ
  row_zeros = replicate max_points 0

  abbrev segment_zeros : List ℕ
  segment_zeros = replicate (segment_room max_points) 0

  pub rows_room : length (point_rows ys (edges_between from to)) ≤ length row_zeros
  rows_room = omega (arith, ap length (points-same h.drawn h.ends), h.few, length-replicate {A = ℕ} max_points 0)

  pub segments-room : length (segments ys (edges_between from to)) ≤ length segment_zeros
  segments-room =
      omega (arith, ap length (segments-same h.drawn h.ends), drawn-few h.drawn h.ends, length-replicate {A = ℕ} (segment_room max_points) 0)

  uppers-room : length (uppers (segments ys (edges_between from to))) ≤ length segment_zeros
  uppers-room = omega (arith, segments-room, length-map (segments ys (edges_between from to)) (λ (s : Segment). s.upper))

  lowers-room : length (lowers (segments ys (edges_between from to))) ≤ length segment_zeros
  lowers-room = omega (arith, segments-room, length-map (segments ys (edges_between from to)) (λ (s : Segment). s.lower))

  -- ---- what is laid

  module _ {row upper lower : List ℕ} {p s : ℕ} (sr : Stored row_zeros 0 (point_rows ys (edges_between from to)) row p)
      (su : Stored segment_zeros 0 (uppers (segments ys (edges_between from to))) upper s) (sl : Stored segment_zeros 0 (lowers (segments ys (edges_between from to))) lower s) where
    pub row_fits : p ≤ length row
    row_fits = stored-within sr rows_room

    pub upper_fits : s ≤ length upper
    upper_fits = stored-within su uppers-room

    pub lower-fits : s ≤ length lower
    lower-fits = stored-within sl lowers-room

    pub row_count : p ≡ length (take p row)
    row_count = stored-count sr rows_room

    pub upper-count : s ≡ length (take s upper)
    upper-count = stored-count su uppers-room

    pub lower-count : s ≡ length (take s lower)
    lower-count = stored-count sl lowers-room

    module _ (drawn : List Edge) (ends : EndsOf drawn from to) where
      row-part : take p row ≡ point_rows ys drawn
      row-part = stored-part sr rows_room ∙ points-same drawn ends

      upper-part : take s upper ≡ uppers (segments ys drawn)
      upper-part = stored-part su uppers-room ∙ ap uppers (segments-same drawn ends)

      lower-part : take s lower ≡ lowers (segments ys drawn)
      lower-part = stored-part sl lowers-room ∙ ap lowers (segments-same drawn ends)

      stacked : Stacked (drawing_of ys drawn).order (segments ys drawn) (take p row) (take s upper) (take s lower) order r
      stacked = rw (row-part, upper-part, lower-part) (chart-stacked drawn ends)

    pub stack : Stack (take p row) (take s upper) (take s lower) order r
    stack = record { o = (drawing_of ys h.drawn).order; segs = segments ys h.drawn; stacked = stacked h.drawn h.ends }

    -- the answer of the flat lists is that of the chart
    pub row-ended : {tries : ℕ} {old new : List ℕ} {a : Result RowFigures Refusal} → LaidEnded (take p row) (take s upper) (take s lower) order r tries old new a
        → RowEnded ys from to r tries old new a
    row-ended {tries} {old} {new} {a} l =
        record {
          numbers = λ drawn ends.
              l.numbers (drawing_of ys drawn).order (segments ys drawn) (stacked drawn ends)
              ∙ ap (λ (rows : List ℕ). (order_end (unless_wide rows (segments ys drawn) (drawing_of ys drawn).order r tries) old).numbers) (row-part drawn ends);
          order_is = λ drawn ends.
              l.order_is (drawing_of ys drawn).order (segments ys drawn) (stacked drawn ends)
              ∙ ap (λ (rows : List ℕ). (order_end (unless_wide rows (segments ys drawn) (drawing_of ys drawn).order r tries) old).order) (row-part drawn ends);
        }

-- The lists in which a chart is laid can be drawn, and their drawing is that of the chart.
use mathlib.Core.Path.{◌≡◌, sym, ap, ◌∙◌, subst}
use mathlib.Core.List.{List, [], ◌∷◌}
use Prim.Native.Nat.{ℕ, zero, suc, ◌≤◌, suc-le-suc}
use native.Mathlib.Nat.{zero-lt-suc}
use native.Mathlib.Numerals.{add-one}
use native.Mathlib.Omega.{arith}
use lib.ListN.{length, take, replicate, length-map, length-replicate}
use Rattle.points.specs.Limits.{max_points}
use Rattle.graph.specs.Rows.{at}
use Rattle.points.specs.Points.{Segment, point_rows, segments, row_count}
use Rattle.points.specs.Laying.{edges_between, Chart, uppers, lowers}
use Rattle.buffers.specs.Lists.{Below}
use Rattle.buffers.specs.Written.{Stored}
use Rattle.passes.specs.Laid.{segments_in}
use Rattle.fewest.specs.Fewest.{Drawing, best_order, drawing_of}
use Rattle.rooms.specs.Rooms.{segment_room, Sketched, DrawnIs}
use Rattle.fewest.specs.Drafts.{Segmented}
use Rattle.drawing.specs.Drawing.{Drawable}
use Rattle.buffers.proofs.WriteLaws.{written-length, written-take}
use Rattle.points.proofs.EdgeLaws.{edges-length}
use Rattle.points.proofs.PointLaws.{points-length, segments-length}
use Rattle.points.proofs.NeighbourLaws.{chart-leads, uppers-in, lowers-in, neighbours}
use Rattle.points.proofs.FewEndsLaws.{uppers-few, lowers-few}
use Rattle.passes.proofs.PassLaws.{segments-in}
use Rattle.fewest.proofs.CompleteLaws.{points-below}
use Rattle.rooms.proofs.RoomLaws.{zeros-long}

count-within : (n : ℕ) (ys : List ℕ) → Below n ys → row_count ys ≤ n
unfolding row_count
count-within n [] b = omega arith
count-within n (y ∷ ys) b =
    omega (arith, b.below zero (zero-lt-suc (length ys)), count-within n ys (record { below = λ i h. b.below (suc i) (suc-le-suc h) }))

-- a list that was stored is the part in front
module _ {old vs l : List ℕ} {p : ℕ} (s : Stored old 0 vs l p) (fits : length vs ≤ length old) where
  part-counts : p ≡ length vs
  part-counts = omega (arith, s.counts)

  pub stored-part : take p l ≡ vs
  stored-part = ap (λ (n : ℕ). take n l) part-counts ∙ ap (take (length vs)) s.holds ∙ written-take old vs fits

  pub stored-within : p ≤ length l
  stored-within = omega (arith, part-counts, ap length s.holds, written-length old 0 vs)

  pub stored-count : p ≡ length (take p l)
  stored-count = part-counts ∙ sym (ap length stored-part)

module _ {ys from to : List ℕ} (t : Chart ys from to) (d : Drawable ys from to) where
  -- segments of a chart with so many points
  pub segments-few : (limit : ℕ) → length (point_rows ys (edges_between from to)) ≤ limit → length (segments ys (edges_between from to)) ≤ segment_room limit
  unfolding segments
  segments-few limit h =
      omega (arith, segments-length ys (length ys) (edges_between from to), points-length ys (edges_between from to), edges-length from to, d.few_edges)

  -- there are as many upper and lower ends
  pub uppers-long : length (uppers (segments ys (edges_between from to))) ≡ length (segments ys (edges_between from to))
  uppers-long = length-map (segments ys (edges_between from to)) (λ (s : Segment). s.upper)

  pub lowers-long : length (lowers (segments ys (edges_between from to))) ≡ length (segments ys (edges_between from to))
  lowers-long = length-map (segments ys (edges_between from to)) (λ (s : Segment). s.lower)

  -- room for so many points has room for the segments between them
  pub segments_fit : (limit size : ℕ) → length (point_rows ys (edges_between from to)) ≤ limit → size ≡ segment_room limit
      → length (segments ys (edges_between from to)) ≤ length (replicate {A = ℕ} size 0)
  segments_fit limit size h e = omega (arith, e, segments-few limit h, length-replicate {A = ℕ} size 0)

  segmented-chart : Segmented (point_rows ys (edges_between from to)) (uppers (segments ys (edges_between from to))) (lowers (segments ys (edges_between from to)))
  segmented-chart =
      let leads = chart-leads t in
      let segs = segments ys (edges_between from to) in
      let u : length (uppers segs) ≡ length segs = uppers-long in
      let v : length (lowers segs) ≡ length segs = lowers-long in
      record {
        both = v ∙ sym u;
        upper_in = uppers-in ys (edges_between from to) leads;
        lower_in = lowers-in ys (edges_between from to) leads;
        few = omega (arith, u, segments-few max_points d.few_points);
        few_points = d.few_points;
        few_above = λ p. omega (arith, lowers-few ys (edges_between from to) leads p, edges-length from to, d.few_edges);
        few_below = λ p. omega (arith, uppers-few ys (edges_between from to) leads p, edges-length from to, d.few_edges);
        down = λ k h. neighbours ys (edges_between from to) leads k (omega (arith, u)) ∙ sym (add-one (at (point_rows ys (edges_between from to)) (at (uppers segs) k)));
      }

  sketched-chart : Sketched max_points (point_rows ys (edges_between from to)) (uppers (segments ys (edges_between from to))) (row_count ys)
  sketched-chart = record {
    few_points = d.few_points;
    few_segments = omega (arith, uppers-long, segments-few max_points d.few_points);
    few_rows = count-within max_points ys d.few_rows;
    rows_in = points-below ys (edges_between from to);
  }

  -- the lists in which the chart is laid, in room for so many points, can be drawn, and their drawing is that of the chart
  module _ {limit size p s : ℕ} {row upper lower : List ℕ} (h : length (point_rows ys (edges_between from to)) ≤ limit) (e : size ≡ segment_room limit)
      (a : Stored (replicate limit 0) 0 (point_rows ys (edges_between from to)) row p)
      (b : Stored (replicate size 0) 0 (uppers (segments ys (edges_between from to))) upper s)
      (c : Stored (replicate size 0) 0 (lowers (segments ys (edges_between from to))) lower s) where
    uppers_fit : length (uppers (segments ys (edges_between from to))) ≤ length (replicate {A = ℕ} size 0)
    uppers_fit = omega (arith, uppers-long, segments_fit limit size h e)

    lowers_fit : length (lowers (segments ys (edges_between from to))) ≤ length (replicate {A = ℕ} size 0)
    lowers_fit = omega (arith, lowers-long, segments_fit limit size h e)

    row_is : take p row ≡ point_rows ys (edges_between from to)
    row_is = stored-part a (zeros-long (length (point_rows ys (edges_between from to))) limit h)

    upper_is : take s upper ≡ uppers (segments ys (edges_between from to))
    upper_is = stored-part b uppers_fit

    lower_is : take s lower ≡ lowers (segments ys (edges_between from to))
    lower_is = stored-part c lowers_fit

    pub upper_within : s ≤ size
    upper_within = omega (arith, b.counts, uppers_fit, length-replicate {A = ℕ} size 0)

    pub laid-segmented : Segmented (take p row) (take s upper) (take s lower)
    laid-segmented = rw (row_is, upper_is, lower_is) segmented-chart

    pub laid-sketched : (count : ℕ) → count ≡ row_count ys → Sketched max_points (take p row) (take s upper) count
    laid-sketched count k = rw (row_is, upper_is, k) sketched-chart

    pub laid-drawn : (count : ℕ) → count ≡ row_count ys → (old new : List ℕ) (n : ℕ) → DrawnIs (best_order count (take p row) (segments_in (take s upper) (take s lower))) old new n
        → DrawnIs (drawing_of ys (edges_between from to)) old new n
    unfolding drawing_of
    laid-drawn count k old new n =
        subst (λ (x : Drawing). DrawnIs x old new n)
        (rw (row_is, upper_is, lower_is, k) (ap (best_order (row_count ys) (point_rows ys (edges_between from to))) (segments-in (segments ys (edges_between from to)))))

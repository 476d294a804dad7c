-- What is laid of a chart's lines is what the search for x takes, and what it finds is the best x of the chart.
use mathlib.Core.Path.{◌≡◌, refl, sym, ap, subst, ◌∙◌}
use mathlib.Core.List.{List, [], ◌∷◌, flatten}
use Prim.Native.Nat.{ℕ, zero, suc, ◌+◌, ◌*◌, ◌≤◌, suc-le-suc}
use native.Mathlib.Nat.{zero-lt-suc}
use native.Mathlib.Omega.{arith}
use lib.ListN.{length, take, replicate, length-map, length-replicate}
use Rattle.graph.specs.declared.Edge.{Edge}
use Rattle.table.specs.Limits.{max_edges}
use Rattle.buffers.specs.Lists.{Below}
use Rattle.buffers.specs.Written.{Stored}
use Rattle.merging.specs.Merging.{max_added}
use Rattle.points.specs.Points.{Segment, point_rows, segments}
use Rattle.points.specs.Laying.{edges_between, Chart, uppers, lowers}
use Rattle.points.proofs.PointLaws.{tails, heads, any-points, any-segments, points-length, segments-length}
use Rattle.points.proofs.NeighbourLaws.{uppers-in, lowers-in, chart-leads}
use Rattle.fewest.specs.Fewest.{drawing_of}
use Rattle.fewest.proofs.CompleteLaws.{drawing-count, drawing-points}
use Rattle.drawing.proofs.DrawLaws.{stored-part, stored-within}
use Rattle.flatten.specs.Flat.{Flat}
use Rattle.flatten.specs.Flat.{flat_edges}
use Rattle.ordering.specs.Calls.{point_count}
use Rattle.ordering.proofs.SplitLaws.{flat-tails, flat-heads, flat-weights}
use Rattle.ordering.proofs.ChartLaws.{drawing-of-ends}
use Rattle.spacing.specs.Limits.{max_xs, max_segments, inner_factor}
use Rattle.spacing.specs.Flat.{costed_of, Ordered, Priced, Spaceable, FoundX}
use Rattle.coordinates.specs.Costs.{chart_costed}
use Rattle.coordinates.specs.Calls.{ChartX, chart_xs}
use Rattle.coordinates.specs.Costing.{costs_from, Light, Lined, Split, LinesSpaced}
use Rattle.coordinates.proofs.CostLaws.{weights, Ends, none, one, All≤, costed-flat, any-costed, costs-low, all-at, all_of}
use Rattle.coordinates.proofs.LayLaws.{costs-length}
use Rattle.coordinates.proofs.OrderLaws.{drawing-ordered}

ends_of : (n : ℕ) (edges : List Edge) → Below n (tails edges) → Below n (heads edges) → Ends n edges
ends_of n [] f t = none
ends_of n (e ∷ edges) f t =
    one (f.below zero (zero-lt-suc _)) (t.below zero (zero-lt-suc _))
    (ends_of n edges (record { below = λ i h. f.below (suc i) (suc-le-suc h) }) (record { below = λ i h. t.below (suc i) (suc-le-suc h) }))

-- ---- lines in flat lists, and the edges that they are

module _ (ys from to weight : List ℕ) (drawn : List Edge) (ef : from ≡ tails drawn) (et : to ≡ heads drawn) (ew : weight ≡ weights drawn) where
  points_are : point_rows ys (edges_between from to) ≡ point_rows ys drawn
  points_are = rw (ef, et) (any-points ys drawn)

  segments-are : segments ys (edges_between from to) ≡ segments ys drawn
  segments-are = rw (ef, et) (any-segments ys drawn)

  module _ (chart : Chart ys from to) where
    ends_in : Ends (length ys) drawn
    ends_in = ends_of (length ys) drawn (subst (Below (length ys)) ef chart.from_in) (subst (Below (length ys)) et chart.to_in)

    upper-ends : Below (length (point_rows ys drawn)) (uppers (segments ys drawn))
    upper-ends = rw (← points_are, ← segments-are) (uppers-in ys (edges_between from to) (chart-leads chart))

    lower-ends : Below (length (point_rows ys drawn)) (lowers (segments ys drawn))
    lower-ends = rw (← points_are, ← segments-are) (lowers-in ys (edges_between from to) (chart-leads chart))

    module _ (few_edges : length from ≤ max_edges) (few : length (point_rows ys drawn) ≤ max_xs) where
      few_segments : length (segments ys drawn) ≤ max_segments
      unfolding segments
      few_segments =
          omega (arith, segments-length ys (length ys) drawn, points-length ys drawn, ap length ef, length-map drawn (λ (e : Edge). e.from))

      module _ (light : Light weight) where
        cost-ends : Below (max_added * inner_factor + 1) (costs_from ys drawn)
        cost-ends =
            record {
              below = λ i h.
                  omega (
                    arith,
                    all-at (max_added * inner_factor) (costs_from ys drawn) (costs-low max_added ys drawn (subst (All≤ max_added) ew (all_of max_added weight light.low))) i h,
                  );
            }

        -- the lists of the ends and the costs, as the search for x takes them
        lists-priced : Priced (length (point_rows ys drawn)) (uppers (segments ys drawn)) (lowers (segments ys drawn)) (costs_from ys drawn)
        unfolding segments
        lists-priced =
            record {
              lower_long = length-map (segments ys drawn) (λ (s : Segment). s.lower) ∙ sym (length-map (segments ys drawn) (λ (s : Segment). s.upper));
              cost_long = costs-length ys (length ys) drawn ∙ sym (length-map (segments ys drawn) (λ (s : Segment). s.upper));
              upper_in = upper-ends;
              lower_in = lower-ends;
              cost_low = cost-ends;
              few = omega (arith, few_segments, length-map (segments ys drawn) (λ (s : Segment). s.upper));
            }

        lists-spaceable : Spaceable (flatten (drawing_of ys drawn).order) (point_rows ys drawn) (uppers (segments ys drawn)) (lowers (segments ys drawn)) (costs_from ys drawn)
        lists-spaceable =
            let all = drawing-count ys drawn in
            record {
              o = (drawing_of ys drawn).order;
              ordered = drawing-ordered ys drawn;
              points_in = record { below = λ i h. drawing-points ys drawn i (omega (arith, all)) };
              priced = rw all lists-priced;
              few = omega (arith, all);
            }

-- ---- edges with the ends and the weights of a flat list, which have its chart

pub split-of : (ends : Flat) {edges : List Edge} → flat_edges ends ≡ edges → Split edges ends
split-of ends e = record { tails = flat-tails ends e; heads = flat-heads ends e; weights = flat-weights ends e }

module _ (ys : List ℕ) (ends : Flat) (edges : List Edge) (s : Split edges ends) where
  same-tails : tails (flat_edges ends) ≡ tails edges
  same-tails = sym (flat-tails ends refl) ∙ s.tails

  same-heads : heads (flat_edges ends) ≡ heads edges
  same-heads = sym (flat-heads ends refl) ∙ s.heads

  same-weights : weights (flat_edges ends) ≡ weights edges
  same-weights = sym (flat-weights ends refl) ∙ s.weights

  pub rows-alike : point_rows ys (flat_edges ends) ≡ point_rows ys edges
  rows-alike = sym (any-points ys (flat_edges ends)) ∙ rw (same-tails, same-heads) (any-points ys edges)

  pub drawing-alike : drawing_of ys (flat_edges ends) ≡ drawing_of ys edges
  drawing-alike = sym (drawing-of-ends ys (flat_edges ends)) ∙ rw (same-tails, same-heads) (drawing-of-ends ys edges)

  pub costed-alike : chart_costed ys (flat_edges ends) ≡ chart_costed ys edges
  costed-alike = sym (any-costed ys (flat_edges ends)) ∙ rw (same-tails, same-heads, same-weights) (any-costed ys edges)

  pub best-alike : (xs : List ℕ) → ChartX ys (flat_edges ends) (take (point_count ys (flat_edges ends)) xs) → ChartX ys edges (take (point_count ys edges) xs)
  best-alike xs b = rw (rows-alike, drawing-alike, costed-alike) at b

  pub xs-alike : (xs : List ℕ) → chart_xs ys (flat_edges ends) ≡ take (point_count ys (flat_edges ends)) xs → chart_xs ys edges ≡ take (point_count ys edges) xs
  xs-alike xs e = rw (rows-alike, drawing-alike, costed-alike) at e

-- ---- what is laid in arrays

abbrev row_zeros : List ℕ
row_zeros = replicate max_xs 0

abbrev segment_zeros : List ℕ
segment_zeros = replicate max_segments 0

module _ (ys : List ℕ) (ends : Flat) (order : List ℕ) (h : Lined ys ends order) where
  abbrev drawn : List Edge
  drawn = flat_edges ends

  abbrev from : List ℕ
  from = ends.from.items

  abbrev to : List ℕ
  to = ends.to.items

  ef : from ≡ tails drawn
  ef = flat-tails ends refl

  et : to ≡ heads drawn
  et = flat-heads ends refl

  ew : ends.weight.items ≡ weights drawn
  ew = flat-weights ends refl

  points-few : length (point_rows ys (edges_between from to)) ≤ max_xs
  points-few = rw (points_are ys from to ends.weight.items drawn ef et ew) h.few

  segments-few : length (segments ys drawn) ≤ max_segments
  segments-few = few_segments ys from to ends.weight.items drawn ef et ew h.chart h.few_lines h.few

  pub rows_room : length (point_rows ys (edges_between from to)) ≤ length row_zeros
  rows_room = omega (arith, points-few, length-replicate {A = ℕ} max_xs 0)

  pub segments-room : length (segments ys (edges_between from to)) ≤ length segment_zeros
  segments-room =
      omega (arith, segments-few, ap length (segments-are ys from to ends.weight.items drawn ef et ew), length-replicate {A = ℕ} max_segments 0)

  uppers-room : length (uppers (segments ys (edges_between from to))) ≤ length segment_zeros
  uppers-room = omega (arith, segments-room, length-map (segments ys (edges_between from to)) (λ (s : Segment). s.upper))

  lowers-room : length (lowers (segments ys (edges_between from to))) ≤ length segment_zeros
  lowers-room = omega (arith, segments-room, length-map (segments ys (edges_between from to)) (λ (s : Segment). s.lower))

  pub costs-room : length (costs_from ys drawn) ≤ max_segments
  unfolding segments
  costs-room = omega (arith, segments-few, costs-length ys (length ys) drawn)

  module _ {row upper lower cost : List ℕ} {p s : ℕ} (sr : Stored row_zeros 0 (point_rows ys (edges_between from to)) row p)
      (su : Stored segment_zeros 0 (uppers (segments ys (edges_between from to))) upper s) (sl : Stored segment_zeros 0 (lowers (segments ys (edges_between from to))) lower s)
      (sc : cost ≡ costs_from ys drawn) where
    row-part : take p row ≡ point_rows ys drawn
    row-part = stored-part sr rows_room ∙ points_are ys from to ends.weight.items drawn ef et ew

    segments-same : segments ys (edges_between from to) ≡ segments ys drawn
    segments-same = segments-are ys from to ends.weight.items drawn ef et ew

    upper-part : take s upper ≡ uppers (segments ys drawn)
    upper-part = stored-part su uppers-room ∙ ap uppers segments-same

    lower-part : take s lower ≡ lowers (segments ys drawn)
    lower-part = stored-part sl lowers-room ∙ ap lowers segments-same

    costed-are : costed_of (take s upper) (take s lower) cost ≡ chart_costed ys drawn
    costed-are = rw (upper-part, lower-part, sc) (costed-flat ys drawn (ends_in ys from to ends.weight.items drawn ef et ew h.chart))

    ordered : Ordered (drawing_of ys drawn).order (take p row) order
    ordered = rw (row-part, h.order_is) (drawing-ordered ys drawn)

    points-count : length order ≡ point_count ys drawn
    points-count = ap length h.order_is ∙ drawing-count ys drawn

    pub spaceable : Spaceable order (take p row) (take s upper) (take s lower) cost
    spaceable =
        rw (h.order_is, row-part, upper-part, lower-part, sc)
        (lists-spaceable ys from to ends.weight.items drawn ef et ew h.chart h.few_lines h.few h.light)

    pub lines-spaced : (xs : List ℕ) → FoundX order (take p row) (take s upper) (take s lower) cost xs → LinesSpaced ys ends order xs
    lines-spaced xs f =
        record {
          best = λ edges t. best-alike ys ends edges t xs (rw (points-count, costed-are) at (f.best (drawing_of ys drawn).order ordered));
          is = λ edges t. xs-alike ys ends edges t xs (rw (points-count, costed-are) at (f.is (drawing_of ys drawn).order ordered));
          low = f.low;
          long = f.long;
        }

    -- the parts that are lent
    pub row_fits : p ≤ length row
    row_fits = stored-within sr rows_room

    pub upper_fits : s ≤ length upper
    upper_fits = stored-within su uppers-room

    pub lower-fits : s ≤ length lower
    lower-fits = stored-within sl lowers-room

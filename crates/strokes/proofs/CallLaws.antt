-- The ends of the call: refused as the chart is, refused for its points, no stroke at the index, and a stroke.
use mathlib.Core.Path.{◌≡◌, sym, ap, subst, ◌∙◌}
use mathlib.Core.Bool.{Bool}
use mathlib.Core.List.{List}
use Prim.Native.Nat.{ℕ, ◌≤◌, ◌<◌}
use native.Mathlib.Omega.{arith}
use borrow.Author.Tests.{le-leb, lt-leb}
use lib.ListN.{length}
use Rattle.std.specs.Prelude.{Option, Some, None, Result, Ok, Err, slice_get, option_map}
use Rattle.std.proofs.lemmas.Option.{slice_get-map, get_or_from_slice_get}
use Rattle.graph.specs.declared.Edge.{Edge}
use Rattle.graph.specs.Rows.{at}
use Rattle.outcome.specs.declared.Refusal.{Refusal}
use Rattle.outcome.specs.declared.Refusal.TheVariants.{LargeChart}
use Rattle.outcome.specs.Refusal.{done, then_do}
use Rattle.table.specs.Calls.{contents_in}
use Rattle.table.specs.Table.{Contents}
use Rattle.layering.specs.Calls.{turned_in}
use Rattle.points.specs.Points.{point_rows}
use Rattle.points.proofs.PointLaws.{points-length}
use Rattle.merging.specs.declared.MergedEdge.{MergedEdge}
use Rattle.merging.specs.Merged.{merged, drawn_edges}
use Rattle.flatten.specs.Flat.{Flat}
use Rattle.flatten.specs.Flat.{flat_edges}
use Rattle.ordering.specs.declared.types.TableChart.{TableChart}
use Rattle.ordering.specs.Calls.{drawn_in, Placing, point_count}
use Rattle.ordering.specs.Charting.{TableFound}
use Rattle.ordering.proofs.DrawnLaws.{first-in}
use Rattle.ordering.proofs.OpenedLaws.{found-refused, Opened, opened-long, opened-drawn, opened-chart}
use Rattle.spacing.specs.Limits.{max_xs}
use Rattle.coordinates.specs.Calls.{chart_xs, unless_past}
use Rattle.coordinates.proofs.SpaceLaws.{split-of}
use Rattle.corners.specs.declared.Stroke.{Stroke}
use Rattle.corners.specs.Corners.{Stands}
use Rattle.corners.specs.Strokes.{end_of}
use Rattle.routes.specs.declared.Visit.{Visit}
use Rattle.routes.specs.Routes.{no_visit, visits_from}
use Rattle.strokes.specs.Calls.{visits_of, stroke_of, strokes_of, strokes_of_table, stroke_at, stroke_call, CornerExact, AnswerExact}
use Rattle.routes.specs.Finding.{Routable}
use Rattle.strokes.specs.Placing.{StrokePlaced}
use Rattle.routes.proofs.LeadLaws.{chart-lead}
use Rattle.routes.proofs.RouteLaws.{visits-in}

-- what the call promises of an answer
pub record Ended (bytes : List ℕ) (i : ℕ) (r : Result (Option Stroke) Refusal) : Type 0 where
  pub value : r ≡ stroke_call bytes i
  pub exact : AnswerExact bytes i r

-- ---- as the chart is

pub ended-refused : (bytes : List ℕ) (i : ℕ) (f : Refusal) → TableFound bytes (Err f) → Ended bytes i (Err f)
unfolding stroke_call strokes_of_table
ended-refused bytes i f h =
    record { value = sym (ap (λ o. stroke_at (then_do o λ p. then_do (unless_past p) λ s. done (strokes_of p s.xs)) i) (found-refused bytes h)); exact = tt }

-- ---- with a chart

module _ (bytes : List ℕ) (i : ℕ) {t : TableChart} (o : Opened bytes t) where
  abbrev rows : List ℕ
  rows = t.chart.rows.items

  abbrev contents : Contents
  contents = contents_in t.table

  abbrev drawn : List Edge
  drawn = drawn_in contents

  abbrev placing : Placing
  placing = record { contents = contents; rows = rows }

  out-is : strokes_of_table bytes ≡ (then_do (unless_past placing) λ s. done (strokes_of placing s.xs))
  unfolding strokes_of_table
  out-is = ap (λ x. then_do x λ p. then_do (unless_past p) λ s. done (strokes_of p s.xs)) o.is

  -- more points than get an x
  pub ended-large : max_xs < length t.chart.order.items → Ended bytes i (Err LargeChart)
  unfolding stroke_call
  ended-large h = record { value = rw (out-is, lt-leb (point_count rows drawn) max_xs (omega (arith, o.points_are))); exact = tt }

  module _ (few : length t.chart.order.items ≤ max_xs) where
    out-done : strokes_of_table bytes ≡ done (strokes_of placing (chart_xs rows drawn))
    out-done = rw (out-is, le-leb (point_count rows drawn) max_xs (omega (arith, o.points_are)))

    -- the lines as the search takes them
    module _ (lines : List MergedEdge) (are : lines ≡ merged t.table.edges.items) where
      drawn-are : drawn_edges t.turned.items lines ≡ drawn
      drawn-are = ap (drawn_edges t.turned.items) are ∙ opened-drawn o

      pub routable : Routable rows lines t.turned.items
      routable =
          record {
            firsts = λ k h. omega (arith, first-in t.table.edges.items are k h, opened-long o);
            chart = rw drawn-are (opened-chart o);
            few = rw drawn-are (omega (arith, o.points_are));
          }

      abbrev sought : Option Visit
      sought = slice_get (visits_from rows t.turned.items (length rows) lines) i

      visits-are : visits_from rows t.turned.items (length rows) lines ≡ visits_of rows contents
      visits-are = ap (visits_from rows t.turned.items (length rows)) are ∙ ap (λ (b : List Bool). visits_from rows b (length rows) (merged contents.edges)) o.flags_are

      abbrev stroke : Visit → Stroke
      stroke = stroke_of (chart_xs rows drawn) (point_rows rows drawn)

      stroke-there : slice_get (strokes_of placing (chart_xs rows drawn)) i ≡ option_map stroke (slice_get (visits_of rows contents) i)
      unfolding strokes_of
      stroke-there = slice_get-map stroke (visits_of rows contents) i

      -- no stroke has the index
      pub ended-nothing : None ≡ sought → Ended bytes i (Ok None)
      unfolding stroke_call
      ended-nothing e =
          let none-there : slice_get (visits_of rows contents) i ≡ None = ap (λ (l : List Visit). slice_get l i) (sym visits-are) ∙ sym e in
          record { value = sym (ap (λ x. stroke_at x i) out-done ∙ ap Ok (stroke-there ∙ ap (option_map stroke) none-there)); exact = tt }

      -- a stroke has it
      module _ (v : Visit) (there : Some v ≡ sought) where
        visit-is : slice_get (visits_of rows contents) i ≡ Some v
        visit-is = ap (λ (l : List Visit). slice_get l i) (sym visits-are) ∙ sym there

        pub point-in : v.point < length t.chart.order.items
        point-in =
            omega (
              arith,
              o.points_are,
              visits-in rows (point_count rows drawn) (omega (arith, points-length rows drawn)) (turned_in contents) (length rows) (merged contents.edges)
                  (chart-lead rows drawn (opened-chart o)) (omega (arith, points-length rows drawn)) i v visit-is,
            )

        module _ (ends : Flat) (e : flat_edges ends ≡ drawn_edges t.turned.items (merged t.table.edges.items)) where
          flat-drawn : flat_edges ends ≡ drawn
          flat-drawn = e ∙ opened-drawn o

          module _ (s : Stroke) (p : StrokePlaced rows ends v s) where
            exact-here : CornerExact rows contents i (end_of s)
            exact-here =
                record {
                  stands =
                      subst (λ (w : Visit). Stands (end_of s) (at (chart_xs rows drawn) w.point) (at (point_rows rows drawn) w.point))
                      (sym (get_or_from_slice_get (visits_of rows contents) i v no_visit visit-is)) (p.stands drawn (split-of ends flat-drawn));
                  best_x = p.best drawn (split-of ends flat-drawn);
                  best_rows = o.best;
                }

            stroke-exact : AnswerExact bytes i (Ok (Some s))
            stroke-exact = rw (o.rows_found, o.said) exact-here

            pub ended_at : Ended bytes i (Ok (Some s))
            unfolding stroke_call
            ended_at =
                record {
                  value =
                      ap (λ x. Ok (Some x)) (p.is drawn (split-of ends flat-drawn))
                      ∙ sym (ap (λ x. stroke_at x i) out-done ∙ ap Ok (stroke-there ∙ ap (option_map stroke) visit-is));
                  exact = stroke-exact;
                }

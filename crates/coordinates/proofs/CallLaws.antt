-- The ends of the call: refused as the chart is, refused for its points, a short buffer, and the best x.
use mathlib.Core.Path.{◌≡◌, refl, sym, ap, subst, ◌∙◌}
use mathlib.Core.Bool.{Bool, true, false, cond}
use mathlib.Core.List.{List, [], ◌∷◌, ◌++◌}
use Prim.Native.Nat.{ℕ, ◌≤◌, ◌<◌}
use native.Mathlib.Omega.{arith}
use native.Mathlib.Nat.{mul-le-mul_right}
use borrow.Author.Tests.{leb-true, le-leb, lt-leb}
use lib.Dec.{leb}
use lib.ListN.{length, get_or, take, drop, length-map, get_or-map}
use lib.Seq.{take_at, get_or-take}
use Rattle.std.specs.Prelude.{Result, Ok, Err}
use Rattle.graph.specs.declared.Edge.{Edge}
use Rattle.graph.specs.declared.TableEdge.{TableEdge}
use Rattle.graph.specs.Directed.{directed}
use Rattle.graph.specs.Rows.{at, no_edge}
use Rattle.outcome.specs.declared.Refusal.{Refusal}
use Rattle.outcome.specs.declared.Refusal.TheVariants.{ManyPoints, ShortBuffer, LargeChart}
use Rattle.outcome.specs.Refusal.{Outcome, done, refused, then_do, demand, numbers_of, refusal_in}
use Rattle.outcome.proofs.ToldLaws.{number-some}
use Rattle.table.specs.Limits.{max_weight}
use Rattle.table.specs.Calls.{contents_in}
use Rattle.table.specs.Table.{Contents, contents_of, read}
use Rattle.rows.specs.Answers.{rows_by}
use Rattle.rows.proofs.StepLaws.{never}
use Rattle.layering.specs.Calls.{table_rows_found, rows_of_table}
use Rattle.points.specs.Limits.{max_points}
use Rattle.merging.specs.Merged.{no_merged_edge, merged, as_edge, drawn_edges}
use Rattle.merging.specs.Merging.{max_added, Mergeable}
use Rattle.merging.proofs.FirstLaws.{merged-few, merged-light}
use Rattle.merging.proofs.SameLaws.{drawn-length, drawn-get}
use Rattle.flatten.specs.Flat.{Flat}
use Rattle.flatten.specs.Flat.{flat_edges}
use Rattle.ordering.specs.declared.types.TableChart.{TableChart}
use Rattle.ordering.specs.Calls.{drawn_in, point_count, unless_many, chart_of_table, filled}
use Rattle.ordering.proofs.SplitLaws.{weights, flat-tails, flat-heads, flat-weights}
use Rattle.ordering.proofs.OpenedLaws.{Opened, opened-mergeable, opened-drawn, opened-chart}
use Rattle.spacing.specs.Limits.{max_xs}
use Rattle.coordinates.specs.Calls.{ChartX, chart_xs, Spacing, spacing, unless_past, xs_of_table, XsEnd, xs_end, xs_call, xs_numbers, rows_held, lines_in, LowX, XsBest}
use Rattle.coordinates.specs.Costing.{Lined, LinesSpaced}
use Rattle.coordinates.proofs.SpaceLaws.{split-of}

-- what the call promises of an answer and the buffer at its end
abbrev pub Ended : List ℕ → List ℕ → List ℕ → Result ℕ Refusal → Type 0
Ended bytes old new r = (xs_numbers r ≡ (xs_call bytes old).numbers) × ((new ≡ (xs_call bytes old).xs) × XsBest bytes (xs_numbers r) new)

-- a refusal is no answer whose x could be better
no-best : (bytes new : List ℕ) (r : Refusal) → XsBest bytes (numbers_of r) new
no-best bytes new r zero = absurd (omega (arith, zero, number-some r))

refused_end : (bytes old : List ℕ) (r : Refusal) → xs_end (xs_of_table bytes) old ≡ record { numbers = numbers_of r; xs = old } → Ended bytes old old (Err r)
unfolding xs_call
refused_end bytes old r e = (sym (ap (λ x. x.numbers) e), (sym (ap (λ x. x.xs) e), no-best bytes old r))

-- ---- as the chart is

pub ended-refused : (bytes old : List ℕ) {r : Refusal} → chart_of_table bytes ≡ refused r → Ended bytes old old (Err r)
unfolding xs_of_table
ended-refused bytes old {r} e = refused_end bytes old r (ap (λ o. xs_end (then_do o unless_past) old) e)

-- ---- with a chart

-- a line has the weight of its merged edge, whichever way it is drawn
directed-weight : (b : Bool) (e : Edge) → (directed b e).weight ≡ e.weight
directed-weight true e = refl
directed-weight false e = refl

-- No line weighs more than all edges of a table can.
module _ (flags : List Bool) (edges : List TableEdge) (ok : Mergeable edges) where
  weight_low : (i : ℕ) → i < length (weights (drawn_edges flags (merged edges))) → at (weights (drawn_edges flags (merged edges))) i ≤ max_added
  weight_low i h =
      let inside : i < length (merged edges) = omega (arith, length-map (drawn_edges flags (merged edges)) (λ (e : Edge). e.weight), drawn-length flags (merged edges)) in
      let k = get_or (merged edges) i no_merged_edge in
      omega (
        arith,
        get_or-map (λ (e : Edge). e.weight) (drawn_edges flags (merged edges)) i no_edge,
        ap (λ (e : Edge). e.weight) (drawn-get flags (merged edges) i inside),
        directed-weight (get_or flags k.first false) (as_edge k),
        merged-light max_weight edges (λ j l. (ok.each j l).weight_low) i inside,
        mul-le-mul_right max_weight ok.few,
      )

module _ {bytes : List ℕ} {r : TableChart} (o : Opened bytes r) (old : List ℕ) where
  abbrev rows : List ℕ
  rows = r.chart.rows.items

  abbrev order : List ℕ
  order = r.chart.order.items

  abbrev drawn : List Edge
  drawn = drawn_in (contents_in r.table)

  out-is : xs_of_table bytes ≡ unless_past (record { contents = contents_in r.table; rows = rows })
  unfolding xs_of_table
  out-is = ap (λ x. then_do x unless_past) o.is

  -- more points than get an x
  pub ended-large : max_xs < length order → Ended bytes old old (Err LargeChart)
  ended-large h =
      refused_end bytes old LargeChart (rw (out-is, lt-leb (point_count rows drawn) max_xs (omega (arith, o.points_are))))

  module _ (few : length order ≤ max_xs) where
    out-done : xs_of_table bytes ≡ done (spacing rows drawn)
    out-done = rw (out-is, le-leb (point_count rows drawn) max_xs (omega (arith, o.points_are)))

    -- the rows, the lines and the order, as the search for x takes them
    module _ (ends : Flat) (same : flat_edges ends ≡ drawn_edges r.turned.items (merged r.table.edges.items)) where
      flat-drawn : flat_edges ends ≡ drawn
      flat-drawn = same ∙ opened-drawn o

      pub lined : Lined rows ends order
      lined =
          record {
            chart = rw (flat-tails ends flat-drawn, flat-heads ends flat-drawn) (opened-chart o);
            few_lines =
                omega (
                  arith,
                  ap length (flat-tails ends same),
                  length-map (drawn_edges r.turned.items (merged r.table.edges.items)) (λ (e : Edge). e.from),
                  drawn-length r.turned.items (merged r.table.edges.items),
                  merged-few r.table.edges.items,
                  (opened-mergeable o).few,
                );
            light = record { low = rw (flat-weights ends same) (weight_low r.turned.items r.table.edges.items (opened-mergeable o)) };
            order_is = rw flat-drawn o.order_is;
            few = rw flat-drawn (omega (arith, o.points_are));
          }

      -- What is stored are the first entries of what was found, and the entries behind them stay.
      pub ended-spaced : length order ≤ length old → (found : List ℕ) → LinesSpaced rows ends order found
          → (new : List ℕ) → new ≡ take (length order) found ++ drop (length order) old → Ended bytes old new (Ok (length order))
      unfolding xs_call
      ended-spaced h found s new e = (numbers, (stored, λ zero. (best, low)))
        where
          best-found : ChartX rows drawn (take (point_count rows drawn) found)
          best-found = s.best drawn (split-of ends flat-drawn)

          points-found : take (length order) found ≡ take (point_count rows drawn) found
          points-found = ap (λ (k : ℕ). take k found) o.points_are

          xs-are : chart_xs rows drawn ≡ take (length order) found
          xs-are = s.is drawn (split-of ends flat-drawn) ∙ sym points-found

          count : length (take (length order) found) ≡ length order
          count = ap length points-found ∙ best-found.one_a_point ∙ sym o.points_are

          front : take (point_count rows drawn) new ≡ take (point_count rows drawn) found
          front =
              ap (λ (k : ℕ). take k new) (sym o.points_are) ∙ ap (take (length order)) e
              ∙ take_at (take (length order) found) (drop (length order) old) (length order) count ∙ points-found

          end_is : xs_end (xs_of_table bytes) old ≡ record { numbers = 0 ∷ point_count rows drawn ∷ []; xs = filled (chart_xs rows drawn) old }
          end_is = rw (out-done, le-leb (point_count rows drawn) (length old) (omega (arith, o.points_are)))

          numbers : 0 ∷ length order ∷ [] ≡ (xs_end (xs_of_table bytes) old).numbers
          numbers = ap (λ (k : ℕ). 0 ∷ k ∷ []) o.points_are ∙ sym (ap (λ x. x.numbers) end_is)

          stored : new ≡ (xs_end (xs_of_table bytes) old).xs
          stored =
              e ∙ ap (λ (k : ℕ). take (length order) found ++ drop k old) (sym count) ∙ ap (λ (l : List ℕ). filled l old) (sym xs-are)
              ∙ sym (ap (λ x. x.xs) end_is)

          best : ChartX (rows_held bytes) (lines_in bytes) (take (point_count (rows_held bytes) (lines_in bytes)) new)
          best = rw (o.rows_found, o.said, front) best-found

          low-here : LowX (point_count rows drawn) new
          low-here p h =
              omega (
                arith,
                get_or-take (point_count rows drawn) new p 0 h,
                ap (λ (l : List ℕ). at l p) front,
                get_or-take (point_count rows drawn) found p 0 h,
                s.low p (omega (arith, o.points_are)),
                o.points_are,
              )

          low : LowX (point_count (rows_held bytes) (lines_in bytes)) new
          low = rw (o.rows_found, o.said) low-here

    -- a buffer that has too few entries
    pub ended-short : length old < length order → Ended bytes old old (Err ShortBuffer)
    ended-short h =
        refused_end bytes old ShortBuffer (rw (out-done, lt-leb (point_count rows drawn) (length old) (omega (arith, o.points_are))))

-- ---- how large an x is

-- an outcome whose numbers begin with 0 has x, and the number of points is told with it
record Told (o : Outcome Spacing) (numbers : List ℕ) : Type 0 where
  spaced : Spacing
  is : o ≡ done spaced
  says : numbers ≡ 0 ∷ spaced.points ∷ []

told-spacing : (o : Outcome Spacing) (old : List ℕ) → refusal_in (xs_end o old).numbers ≡ 0 → Told o (xs_end o old).numbers
told-spacing (refused r) old e = absurd (omega (arith, e, number-some r))
told-spacing (done s) old e = go (leb s.points (length old)) e
  where
    ends : Bool → XsEnd
    ends b = cond b (record { numbers = 0 ∷ s.points ∷ []; xs = filled s.xs old }) (record { numbers = numbers_of ShortBuffer; xs = old })

    go : (b : Bool) → refusal_in (ends b).numbers ≡ 0 → Told (done s) (ends b).numbers
    go true e = record { spaced = s; is = refl; says = refl }
    go false e = absurd (omega (arith, e))

-- A chart that gets x has at most 128 points: by each refusal that the outcome is not.
few-spaced : (bytes : List ℕ) (s : Spacing) → xs_of_table bytes ≡ done s → (s.points ≡ point_count (rows_held bytes) (lines_in bytes)) × (s.points ≤ max_xs)
unfolding xs_of_table chart_of_table rows_of_table
few-spaced bytes s = go (read bytes)
  where
    past : (t : Contents) (ys : List ℕ) (b : Bool) → leb (point_count ys (drawn_in t)) max_xs ≡ b → demand b LargeChart (done (spacing ys (drawn_in t))) ≡ done s
        → (s.points ≡ point_count ys (drawn_in t)) × (s.points ≤ max_xs)
    past t ys true p e =
        let same : s.points ≡ point_count ys (drawn_in t) = cc in
        (same, omega (arith, same, leb-true (point_count ys (drawn_in t)) max_xs p))
    past t ys false p e = never (sym e)

    many : (t : Contents) (ys : List ℕ) (b : Bool) → then_do (demand b ManyPoints (done (record { contents = t; rows = ys }))) unless_past ≡ done s
        → (s.points ≡ point_count ys (drawn_in t)) × (s.points ≤ max_xs)
    many t ys true e = past t ys (leb (point_count ys (drawn_in t)) max_xs) refl e
    many t ys false e = never (sym e)

    found : (t : Contents) (o : Outcome (List ℕ)) → then_do (then_do o (λ ys. unless_many t ys)) unless_past ≡ done s
        → (s.points ≡ point_count (rows_by o) (drawn_in t)) × (s.points ≤ max_xs)
    found t (done ys) e = many t ys (leb (point_count ys (drawn_in t)) max_points) e
    found t (refused g) e = never (sym e)

    go : (o : Outcome Contents) → then_do (then_do o (λ t. then_do (table_rows_found (length t.steps) t.edges) (λ ys. unless_many t ys))) unless_past ≡ done s
        → (s.points ≡ point_count (rows_by (then_do o (λ t. table_rows_found (length t.steps) t.edges))) (drawn_in (contents_of o))) × (s.points ≤ max_xs)
    go (done t) e = found t (table_rows_found (length t.steps) t.edges) e
    go (refused g) e = never (sym e)

module _ (bytes old : List ℕ) where
  -- the count that is told
  pub told-few : (points : ℕ) → 0 ∷ points ∷ [] ≡ (xs_call bytes old).numbers → points ≤ max_xs
  unfolding xs_call
  told-few points e =
      let t = told-spacing (xs_of_table bytes) old (ap refusal_in (sym e)) in
      omega (arith, ap (λ (l : List ℕ). get_or l 1 0) (e ∙ t.says), (few-spaced bytes t.spaced t.is).1)

  -- So no x is as large as 128, whatever the call is lent.
  pub xs-low : (new numbers : List ℕ) → numbers ≡ (xs_call bytes old).numbers → XsBest bytes numbers new → refusal_in numbers ≡ 0
      → (p : ℕ) → p < point_count (rows_held bytes) (lines_in bytes) → at new p < max_xs
  unfolding xs_call
  xs-low new numbers e best zero p h =
      let t = told-spacing (xs_of_table bytes) old (ap refusal_in (sym e) ∙ zero) in
      let s = few-spaced bytes t.spaced t.is in
      omega (arith, (best zero).1 p h, s.0, s.1)

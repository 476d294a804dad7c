-- The ends of the call: refused as the chart is, no such row, and what the search in the row ends with.
use mathlib.Core.Path.{◌≡◌, refl, sym, ap, ◌∙◌, subst}
use mathlib.Core.List.{List}
use mathlib.Core.Logic.{◌⊎◌, inl, inr}
use Prim.Native.Nat.{ℕ, ◌≤◌, ◌<◌}
use native.Mathlib.Omega.{arith}
use borrow.Author.Tests.{lt-ltb, le-ltb}
use Rattle.std.specs.Prelude.{Result, Err}
use Rattle.graph.specs.declared.Edge.{Edge}
use Rattle.outcome.specs.declared.Refusal.{Refusal}
use Rattle.outcome.specs.declared.Refusal.TheVariants.{BadRow}
use Rattle.outcome.specs.Refusal.{done, then_do, numbers_of}
use Rattle.table.specs.Calls.{contents_in}
use Rattle.points.specs.Points.{row_count}
use Rattle.merging.specs.Merged.{merged, drawn_edges}
use Rattle.flatten.specs.Flat.{Flat}
use Rattle.flatten.specs.Flat.{flat_edges}
use Rattle.ordering.specs.declared.types.TableChart.{TableChart}
use Rattle.ordering.specs.Calls.{drawn_in, Placing, chart_of_table}
use Rattle.ordering.specs.Charting.{TableFound}
use Rattle.ordering.proofs.DrawnLaws.{drawn-among}
use Rattle.ordering.proofs.SplitLaws.{flat-tails, flat-heads}
use Rattle.ordering.proofs.OpenedLaws.{found-refused, Opened, directed-fair, opened-drawn, opened-chart}
use Rattle.rearranging.specs.declared.RowFigures.{RowFigures}
use Rattle.rearranging.specs.Calls.{chart_arranged, unless_none, order_of_table, order_end, order_call, order_numbers, RowShown, OrderShown}
use Rattle.rearranging.specs.Arranging.{EndsOf, Arrangeable, RowEnded}
use Rattle.rearranging.proofs.ArrangeLaws.{chart-stacked}
use Rattle.rearranging.proofs.EndLaws.{never, end-shown}

done-same : {p q : Placing} → done p ≡ done q → p ≡ q
done-same e = cc

-- what the call promises of an answer and the buffer at its end
pub record Ended (bytes : List ℕ) (r tries : ℕ) (old new : List ℕ) (a : Result RowFigures Refusal) : Type 0 where
  pub numbers : order_numbers a ≡ (order_call bytes r tries old).numbers
  pub order : new ≡ (order_call bytes r tries old).order
  pub shown : OrderShown bytes r tries (order_numbers a) new

module _ (bytes : List ℕ) (r tries : ℕ) (old : List ℕ) where
  refused_end : (f : Refusal) → order_end (order_of_table bytes r tries) old ≡ record { numbers = numbers_of f; order = old } → Ended bytes r tries old old (Err f)
  unfolding order_call
  refused_end f e =
      record { numbers = sym (ap (λ x. x.numbers) e); order = sym (ap (λ x. x.order) e); shown = record { shown = λ z p is. never f refl z } }

  pub ended-refused : (f : Refusal) → TableFound bytes (Err f) → Ended bytes r tries old old (Err f)
  unfolding order_of_table
  ended-refused f h = refused_end f (ap (λ o. order_end (then_do o λ p. unless_none p r tries) old) (found-refused bytes h))

  -- ---- with a chart

  module _ {t : TableChart} (o : Opened bytes t) where
    abbrev rows : List ℕ
    rows = t.chart.rows.items

    abbrev drawn : List Edge
    drawn = drawn_in (contents_in t.table)

    abbrev placing : Placing
    placing = record { contents = contents_in t.table; rows = rows }

    out-is : order_of_table bytes r tries ≡ unless_none placing r tries
    unfolding order_of_table
    out-is = ap (λ x. then_do x λ p. unless_none p r tries) o.is

    -- row 0, or one that is not there
    pub ended-none : (r ≡ 0) ⊎ ((r ≡ 0 → ⊥) × (t.chart.height ≤ r)) → Ended bytes r tries old old (Err BadRow)
    ended-none (inl e) = refused_end BadRow (rw (out-is, le-ltb 0 r (omega arith)))
    ended-none (inr h) = refused_end BadRow (rw (out-is, lt-ltb 0 r (omega (arith, h.0)), le-ltb r (row_count rows) (omega (arith, o.height_is, h.1))))

    module _ (above : 0 < r) where
      module _ (inside : r < t.chart.height) where
        out-row : order_of_table bytes r tries ≡ chart_arranged rows drawn r tries
        out-row = rw (out-is, lt-ltb 0 r above, lt-ltb r (row_count rows) (omega (arith, o.height_is)))

        module _ (f : Flat) (e : flat_edges f ≡ drawn_edges t.turned.items (merged t.table.edges.items)) where
          drawn-are : flat_edges f ≡ drawn
          drawn-are = e ∙ opened-drawn o

          ends : EndsOf drawn f.from.items f.to.items
          ends = record { tails = flat-tails f drawn-are; heads = flat-heads f drawn-are }

          pub arrangeable : Arrangeable rows f.from.items f.to.items t.chart.order.items r
          arrangeable =
              record {
                drawn = drawn;
                ends = ends;
                few_edges = omega (arith, (directed-fair o).few_edges, (drawn-among (contents_in t.table)).few);
                chart = rw (ends.tails, ends.heads) (opened-chart o);
                order_is = o.order_is;
                few = omega (arith, o.points_are, o.few_points);
                above = above;
                tall = omega (arith, o.height_is);
              }

          -- The chart of the bytes is the one that was opened.
          pub ended-row : (new : List ℕ) (a : Result RowFigures Refusal) → RowEnded rows f.from.items f.to.items r tries old new a → Ended bytes r tries old new a
          unfolding order_call
          ended-row new a k =
              let n : order_numbers a ≡ (order_end (chart_arranged rows drawn r tries) old).numbers = k.numbers drawn ends in
              let b : new ≡ (order_end (chart_arranged rows drawn r tries) old).order = k.order_is drawn ends in
              let out : order_end (chart_arranged rows drawn r tries) old ≡ order_end (order_of_table bytes r tries) old = ap (λ x. order_end x old) (sym out-row) in
              record {
                numbers = n ∙ ap (λ x. x.numbers) out;
                order = b ∙ ap (λ x. x.order) out;
                shown = record { shown = λ z p is. same-shown p is (end-shown rows drawn (chart-stacked arrangeable drawn ends) tries old n b z) };
              }
            where
              same-shown : (p : Placing) → chart_of_table bytes ≡ done p → RowShown rows drawn r tries (order_numbers a) new
                  → RowShown p.rows (drawn_in p.contents) r tries (order_numbers a) new
              same-shown p is w =
                  let same : placing ≡ p = done-same (sym o.is ∙ is) in
                  subst (λ (q : Placing). RowShown q.rows (drawn_in q.contents) r tries (order_numbers a) new) same w

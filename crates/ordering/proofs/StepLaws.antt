-- The step that comes with a loop is one of the steps, in every refusal of the whole chart.
use mathlib.Core.Path.{◌≡◌, refl, sym, ap, subst}
use mathlib.Core.Bool.{Bool, true, false, ◌&&◌, cond}
use mathlib.Core.List.{List, ◌∷◌}
use Prim.Native.Nat.{ℕ}
use native.Mathlib.Omega.{arith}
use lib.Dec.{leb}
use lib.ListN.{length}
use Rattle.outcome.specs.declared.Refusal.{Refusal}
use Rattle.outcome.specs.declared.Refusal.TheVariants.{ManyPoints, ShortBuffer}
use Rattle.points.specs.Limits.{max_points}
use Rattle.outcome.specs.Refusal.{Outcome, done, refused, then_do, numbers_of, refusal_in}
use Rattle.table.specs.Table.{Contents, read}
use Rattle.table.proofs.FairLaws.{read-fair}
use Rattle.table.proofs.RangeLaws.{read-alone}
use Rattle.outcome.proofs.ToldLaws.{numbers-same, number-some}
use Rattle.rows.proofs.StepLaws.{StepLow, never, same, demand-step}
use Rattle.layering.specs.Calls.{table_rows_found, oriented_in}
use Rattle.layering.proofs.StepLaws.{ranked-step}
use Rattle.ordering.specs.Calls.{Placing, Charted, ChartEnd, drawn_in, point_count, unless_many, chart_of_table, charted, chart_out, figures_numbers, filled, chart_end, chart_call}

pub chart-of-step : (bytes : List ℕ) {f : Refusal} → chart_of_table bytes ≡ refused f → StepLow f
unfolding chart_of_table
chart-of-step bytes {f} e = go (read bytes) refl e
  where
    found : (t : Contents) (o : Outcome (List ℕ)) → ((g : Refusal) → o ≡ refused g → StepLow g) → then_do o (λ rows. unless_many t rows) ≡ refused f → StepLow f
    found t (done rows) h e = demand-step (leb (point_count rows (drawn_in t)) max_points) ManyPoints _ (omega arith) (λ _ k. never k) e
    found t (refused g) h e = subst StepLow (same e) (h g refl)

    go : (o : Outcome Contents) → read bytes ≡ o
        → then_do o (λ t. then_do (table_rows_found (length t.steps) t.edges) (λ rows. unless_many t rows)) ≡ refused f → StepLow f
    go (done t) r e =
        found t (table_rows_found (length t.steps) t.edges) (λ g. ranked-step (length t.steps) t.edges (read-fair bytes r).few_steps) e
    go (refused g) r e = subst StepLow (same e) (omega (arith, read-alone bytes r))

pub chart-call-step : (bytes rows order : List ℕ) (f : Refusal) → numbers_of f ≡ (chart_call bytes rows order).numbers → StepLow f
unfolding chart_call
chart-call-step bytes rows order f e = go (chart_of_table bytes) refl e
  where
    end : (c : Charted) (b : Bool)
        → numbers_of f ≡ (cond {A = ChartEnd} b (record { numbers = 0 ∷ figures_numbers c.figures; rows = filled c.rows rows; order = filled c.order order })
        (record { numbers = numbers_of ShortBuffer; rows = rows; order = order })).numbers → StepLow f
    end c true e = absurd (omega (arith, number-some f, ap refusal_in e))
    end c false e = subst StepLow (numbers-same ShortBuffer f (sym e)) (omega arith)

    go : (o : Outcome Placing) → chart_of_table bytes ≡ o → numbers_of f ≡ (chart_end (chart_out o) rows order).numbers → StepLow f
    go (done p) r e =
        let c = charted p.rows (oriented_in p.contents) (drawn_in p.contents) in
        end c (leb (length c.rows) (length rows) && leb (length c.order) (length order)) e
    go (refused g) r e = subst StepLow (numbers-same g f (sym e)) (chart-of-step bytes r)

-- The step that comes with a loop is one of the steps, in every refusal of the call for the best order of a row.
use mathlib.Core.Path.{◌≡◌, refl, sym, ap, subst}
use mathlib.Core.Bool.{Bool, true, false, ◌&&◌, cond}
use mathlib.Core.List.{List, ◌∷◌}
use Prim.Native.Nat.{ℕ}
use native.Mathlib.Omega.{arith}
use lib.Dec.{ltb, leb}
use lib.ListN.{length}
use Rattle.outcome.specs.declared.Refusal.{Refusal}
use Rattle.outcome.specs.declared.Refusal.TheVariants.{ShortBuffer, BadRow, ManyTries}
use Rattle.outcome.specs.Refusal.{Outcome, done, refused, then_do, numbers_of, refusal_in}
use Rattle.outcome.proofs.ToldLaws.{numbers-same, number-some}
use Rattle.points.specs.Points.{row_count}
use Rattle.rows.proofs.StepLaws.{StepLow, never, same, demand-step}
use Rattle.ordering.specs.Calls.{drawn_in, Placing, chart_of_table, filled}
use Rattle.ordering.proofs.StepLaws.{chart-of-step}
use Rattle.exchange.specs.Limits.{max_row_points, max_tries}
use Rattle.rearranging.specs.Calls.{Arranged, unless_none, order_of_table, row_numbers, OrderEnd, order_end, order_call, chart_row}

order-of-step : (bytes : List ℕ) (r tries : ℕ) {f : Refusal} → order_of_table bytes r tries ≡ refused f → StepLow f
unfolding order_of_table
order-of-step bytes r tries {f} e = go (chart_of_table bytes) refl e
  where
    go : (o : Outcome Placing) → chart_of_table bytes ≡ o → (then_do o λ p. unless_none p r tries) ≡ refused f → StepLow f
    go (done p) q e =
        demand-step (ltb 0 r && ltb r (row_count p.rows)) BadRow _ (omega arith)
        (λ _ e. demand-step (leb (length (chart_row p.rows (drawn_in p.contents) r)) max_row_points) BadRow _ (omega arith)
        (λ _ e. demand-step (leb tries max_tries) ManyTries _ (omega arith) (λ _ k. never k) e) e) e
    go (refused g) q e = subst StepLow (same e) (chart-of-step bytes q)

pub order-call-step : (bytes : List ℕ) (r tries : ℕ) (old : List ℕ) (f : Refusal) → numbers_of f ≡ (order_call bytes r tries old).numbers → StepLow f
unfolding order_call
order-call-step bytes r tries old f e = go (order_of_table bytes r tries) refl e
  where
    end : (a : Arranged) (b : Bool)
        → numbers_of f
        ≡ (cond {A = OrderEnd} b (record { numbers = 0 ∷ row_numbers a.figures; order = filled a.order old }) (record { numbers = numbers_of ShortBuffer; order = old })).numbers
        → StepLow f
    end a true e = absurd (omega (arith, number-some f, ap refusal_in e))
    end a false e = subst StepLow (numbers-same ShortBuffer f (sym e)) (omega arith)

    go : (o : Outcome Arranged) → order_of_table bytes r tries ≡ o → numbers_of f ≡ (order_end o old).numbers → StepLow f
    go (done a) q e = end a (leb a.figures.points (length old)) e
    go (refused g) q e = subst StepLow (numbers-same g f (sym e)) (order-of-step bytes r tries q)

-- The step that comes with a loop is one of the steps, in every refusal of the call for x.
use mathlib.Core.Path.{◌≡◌, refl, sym, ap, subst}
use mathlib.Core.Bool.{Bool, true, false, cond}
use mathlib.Core.List.{List, [], ◌∷◌}
use Prim.Native.Nat.{ℕ}
use native.Mathlib.Omega.{arith}
use lib.Dec.{leb}
use lib.ListN.{length}
use Rattle.outcome.specs.declared.Refusal.{Refusal}
use Rattle.outcome.specs.declared.Refusal.TheVariants.{ShortBuffer, LargeChart}
use Rattle.outcome.specs.Refusal.{Outcome, done, refused, then_do, numbers_of, refusal_in}
use Rattle.outcome.proofs.ToldLaws.{numbers-same, number-some}
use Rattle.rows.proofs.StepLaws.{StepLow, never, same, demand-step}
use Rattle.ordering.specs.Calls.{Placing, drawn_in, point_count, chart_of_table, filled}
use Rattle.ordering.proofs.StepLaws.{chart-of-step}
use Rattle.spacing.specs.Limits.{max_xs}
use Rattle.coordinates.specs.Calls.{Spacing, unless_past, xs_of_table, XsEnd, xs_end, xs_call}

pub xs-of-step : (bytes : List ℕ) {f : Refusal} → xs_of_table bytes ≡ refused f → StepLow f
unfolding xs_of_table
xs-of-step bytes {f} e = go (chart_of_table bytes) refl e
  where
    go : (o : Outcome Placing) → chart_of_table bytes ≡ o → then_do o unless_past ≡ refused f → StepLow f
    go (done p) r e = demand-step (leb (point_count p.rows (drawn_in p.contents)) max_xs) LargeChart _ (omega arith) (λ _ k. never k) e
    go (refused g) r e = subst StepLow (same e) (chart-of-step bytes r)

pub xs-call-step : (bytes old : List ℕ) (f : Refusal) → numbers_of f ≡ (xs_call bytes old).numbers → StepLow f
unfolding xs_call
xs-call-step bytes old f e = go (xs_of_table bytes) refl e
  where
    end : (s : Spacing) (b : Bool)
        → numbers_of f ≡ (cond {A = XsEnd} b (record { numbers = 0 ∷ s.points ∷ []; xs = filled s.xs old }) (record { numbers = numbers_of ShortBuffer; xs = old })).numbers
        → StepLow f
    end s true e = absurd (omega (arith, number-some f, ap refusal_in e))
    end s false e = subst StepLow (numbers-same ShortBuffer f (sym e)) (omega arith)

    go : (o : Outcome Spacing) → xs_of_table bytes ≡ o → numbers_of f ≡ (xs_end o old).numbers → StepLow f
    go (done s) r e = end s (leb s.points (length old)) e
    go (refused g) r e = subst StepLow (numbers-same g f (sym e)) (xs-of-step bytes r)

-- Strokes are refused just as x are, but for a buffer; so the step that comes with a loop is one of the steps.
use mathlib.Core.Path.{◌≡◌, refl, ap, ◌∙◌}
use mathlib.Core.List.{List}
use Rattle.std.specs.Prelude.{Err}
use mathlib.Core.Logic.{◌↔◌}
use Prim.Native.Nat.{ℕ}
use native.Mathlib.Omega.{arith}
use Rattle.outcome.specs.declared.Refusal.{Refusal}
use Rattle.outcome.specs.Refusal.{Outcome, done, refused, then_do}
use Rattle.rows.proofs.StepLaws.{StepLow, never, same}
use Rattle.ordering.specs.Calls.{Placing, chart_of_table}
use Rattle.coordinates.specs.Calls.{Spacing, unless_past, xs_of_table}
use Rattle.coordinates.proofs.StepLaws.{xs-of-step}
use Rattle.corners.specs.declared.Stroke.{Stroke}
use Rattle.strokes.specs.Calls.{strokes_of, strokes_of_table, stroke_at, stroke_call}

-- what comes behind an outcome changes no refusal
passed : {A B : Type 0} (o : Outcome A) (f : A → B) {r : Refusal} → (then_do o λ a. done (f a)) ≡ refused r → o ≡ refused r
passed (done a) f e = never e
passed (refused g) f e = ap refused (same e)

pub refused-as-xs : (bytes : List ℕ) {r : Refusal} → strokes_of_table bytes ≡ refused r ↔ xs_of_table bytes ≡ refused r
unfolding strokes_of_table xs_of_table
refused-as-xs bytes {r} = go (chart_of_table bytes)
  where
    go : (o : Outcome Placing)
        → (then_do o λ p. then_do (unless_past p) λ s. done (strokes_of p s.xs)) ≡ refused r ↔ then_do o unless_past ≡ refused r
    go (done p) = (λ e. passed (unless_past p) (λ (s : Spacing). strokes_of p s.xs) e, λ e. ap (λ o. then_do o λ s. done (strokes_of p s.xs)) e)
    go (refused g) = (λ e. ap refused (same e), λ e. ap refused (same e))

pub stroke-call-step : (bytes : List ℕ) (i : ℕ) (f : Refusal) → stroke_call bytes i ≡ Err f → StepLow f
unfolding stroke_call
stroke-call-step bytes i f e = go (strokes_of_table bytes) refl e
  where
    go : (o : Outcome (List Stroke)) → strokes_of_table bytes ≡ o → stroke_at o i ≡ Err f → StepLow f
    go (done l) r e = let z : ◌≡◌ {A = ℕ} 0 1 = cc in absurd (omega arith)
    go (refused g) r e = let is : g ≡ f = cc in xs-of-step bytes ((refused-as-xs bytes).0 (r ∙ ap refused is))

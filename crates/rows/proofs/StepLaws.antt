-- The step that comes with a loop is one of the steps, in every refusal of the row finder.
use mathlib.Core.Path.{◌≡◌, refl, sym, ap, ◌∙◌, subst}
use mathlib.Core.Bool.{Bool, true, false, cond}
use mathlib.Core.Logic.{⊎_elim}
use mathlib.Core.List.{List}
use Prim.Native.Nat.{ℕ, zero, suc, ◌+◌, ◌≤◌, ◌<◌}
use native.Mathlib.Omega.{arith}
use Rattle.std.specs.Prelude.{Option, Some, None}
use Rattle.graph.specs.declared.Edge.{Edge}
use Rattle.graph.specs.Search.{rows_of}
use Rattle.outcome.specs.declared.Refusal.{Refusal}
use Rattle.outcome.specs.declared.Refusal.TheVariants.{ShortBuffer}
use Rattle.table.specs.Limits.{max_steps}
use Rattle.outcome.specs.Refusal.{Outcome, done, refused, demand, numbers_of, refusal_in, step_of}
use Rattle.outcome.proofs.ToldLaws.{numbers-same, number-some}
use Rattle.acyclic.specs.Loops.{first_from, on_loop, lowest_on_loop}
use Rattle.rows.specs.Answers.{unless_loop, rows_found, rows_end}
use Rattle.rows.proofs.StoreLaws.{told-done}

-- a step number within the limit, and 0 where no step comes with a refusal
abbrev pub StepLow : Refusal → Type 0
StepLow r = step_of r < max_steps

pub never : {X A : Type 0} {a : A} {r : Refusal} → done a ≡ refused r → X
never e = let z : ◌≡◌ {A = ℕ} 0 1 = cc in absurd (omega arith)

pub same : {A : Type 0} {r s : Refusal} → ◌≡◌ {A = Outcome A} (refused r) (refused s) → r ≡ s
same e = cc

-- the first of k numbers from a on is below a + k
first_below : (test : ℕ → Bool) (a k : ℕ) {s : ℕ} → first_from test a k ≡ Some s → s < a + k
unfolding first_from
first_below test a zero e = let z : ◌≡◌ {A = ℕ} 0 1 = cc in absurd (omega arith)
first_below test a (suc k) {s} e = go (test a) (first_below test (suc a) k) e
  where
    go : (b : Bool) → (first_from test (suc a) k ≡ Some s → s < suc a + k) → cond b (Some a) (first_from test (suc a) k) ≡ Some s → s < a + suc k
    go true ih e = let h : a ≡ s = cc in omega arith
    go false ih e = omega (arith, ih e)

-- whatever rows there would be without a loop
pub loop-step : (n : ℕ) (edges : List Edge) (rows : List ℕ) {f : Refusal} → n ≤ max_steps → unless_loop (lowest_on_loop n edges) rows ≡ refused f → StepLow f
unfolding lowest_on_loop
loop-step n edges rows {f} h e = go (lowest_on_loop n edges) refl e
  where
    go : (o : Option ℕ) → lowest_on_loop n edges ≡ o → unless_loop o rows ≡ refused f → StepLow f
    go None l e = never e
    go (Some s) l e = subst StepLow (same e) (omega (arith, first_below (on_loop n edges) 0 n l))

pub found-step : (n : ℕ) (edges : List Edge) {f : Refusal} → n ≤ max_steps → rows_found n edges ≡ refused f → StepLow f
unfolding rows_found
found-step n edges h e = loop-step n edges (rows_of n edges) h e

pub demand-step : {A : Type 0} (b : Bool) (r : Refusal) (next : Outcome A) {f : Refusal} → StepLow r → (b ≡ true → next ≡ refused f → StepLow f)
    → demand b r next ≡ refused f → StepLow f
demand-step true r next h k e = k refl e
demand-step false r next h k e = subst StepLow (same e) h

-- a buffer adds a refusal without a step
pub end_step : (o : Outcome (List ℕ)) (old : List ℕ) (f : Refusal) → ((g : Refusal) → o ≡ refused g → StepLow g) → numbers_of f ≡ (rows_end o old).numbers → StepLow f
end_step (refused r) old f h e = subst StepLow (numbers-same r f (sym e)) (h r refl)
end_step (done rows) old f h e =
    ⊎_elim (λ t. absurd (omega (arith, number-some f, ap refusal_in (e ∙ t)))) (λ t. subst StepLow (numbers-same ShortBuffer f (sym (e ∙ t))) (omega arith))
    (told-done rows old)

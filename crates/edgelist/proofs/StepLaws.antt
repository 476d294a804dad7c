-- The step that comes with a loop of lent edges is one of the steps.
use mathlib.Core.Path.{◌≡◌, refl, subst}
use mathlib.Core.Bool.{Bool, true, false}
use mathlib.Core.List.{List, [], ◌∷◌}
use Prim.Native.Nat.{ℕ, ◌≤◌}
use native.Mathlib.Omega.{arith}
use borrow.Author.Tests.{leb-true}
use lib.Dec.{leb}
use lib.ListN.{length}
use Rattle.graph.specs.declared.Edge.{Edge}
use Rattle.outcome.specs.declared.Refusal.{Refusal}
use Rattle.outcome.specs.declared.Refusal.TheVariants.{ManySteps, ManyEdges}
use Rattle.outcome.specs.Refusal.{Outcome, done, refused, then_do, numbers_of}
use Rattle.table.specs.Limits.{max_steps, max_edges}
use Rattle.rows.specs.Answers.{rows_found}
use Rattle.rows.proofs.StepLaws.{StepLow, never, same, demand-step, found-step, end_step}
use Rattle.edgelist.specs.Calls.{ends_good, sizes_good, edge_judged, records_judged, rows_of_records, record_call}

-- neither fault of an edge has a step, whichever is judged first
edge-step : (n : ℕ) (x : Edge) {f : Refusal} → edge_judged n x ≡ refused f → StepLow f
unfolding edge_judged
edge-step n x {f} e = go (ends_good n x) (sizes_good x) refl refl
  where
    go : (a b : Bool) → ends_good n x ≡ a → sizes_good x ≡ b → StepLow f
    go true true p q = never (simp (p, q) at e)
    go true false p q = subst StepLow (same (simp (p, q) at e)) (omega arith)
    go false true p q = subst StepLow (same (simp (p, q) at e)) (omega arith)
    go false false p q = subst StepLow (same (simp (p, q) at e)) (omega arith)

judged-step : (n : ℕ) (edges : List Edge) {f : Refusal} → records_judged n edges ≡ refused f → StepLow f
unfolding records_judged
judged-step n [] e = never e
judged-step n (x ∷ edges) {f} e = go (edge_judged n x) refl (judged-step n edges) e
  where
    go : (o : Outcome (Unit {0})) → edge_judged n x ≡ o → (records_judged n edges ≡ refused f → StepLow f) → then_do o (λ _. records_judged n edges) ≡ refused f → StepLow f
    go (done _) r ih e = ih e
    go (refused g) r ih e = subst StepLow (same e) (edge-step n x r)

pub records-step : (n : ℕ) (edges : List Edge) {f : Refusal} → rows_of_records n edges ≡ refused f → StepLow f
unfolding rows_of_records
records-step n edges {f} e =
    demand-step (leb n max_steps) ManySteps _ (omega arith)
    (λ l. demand-step (leb (length edges) max_edges) ManyEdges _ (omega arith) (λ _. go (leb-true n max_steps l) (records_judged n edges) refl)) e
  where
    go : n ≤ max_steps → (o : Outcome (Unit {0})) → records_judged n edges ≡ o → then_do o (λ _. rows_found n edges) ≡ refused f → StepLow f
    go h (done _) r e = found-step n edges h e
    go h (refused g) r e = subst StepLow (same e) (judged-step n edges r)

pub record-call-step : (n : ℕ) (edges : List Edge) (old : List ℕ) (f : Refusal) → numbers_of f ≡ (record_call n edges old).numbers → StepLow f
unfolding record_call
record-call-step n edges old f e = end_step (rows_of_records n edges) old f (λ g. records-step n edges) e

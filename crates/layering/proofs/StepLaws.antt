-- The step that comes with a loop is one of the table's steps.
use mathlib.Core.Path.{◌≡◌, refl, subst}
use mathlib.Core.List.{List}
use Prim.Native.Nat.{ℕ, ◌≤◌}
use native.Mathlib.Omega.{arith}
use lib.ListN.{length}
use Rattle.outcome.specs.declared.Refusal.{Refusal}
use Rattle.outcome.specs.Refusal.{Outcome, done, refused, then_do, numbers_of}
use Rattle.table.specs.Table.{Contents, read}
use Rattle.table.proofs.FairLaws.{read-fair}
use Rattle.table.proofs.RangeLaws.{read-alone}
use Rattle.graph.specs.declared.TableEdge.{TableEdge}
use Rattle.graph.specs.Search.{rows_of}
use Rattle.table.specs.Limits.{max_steps}
use Rattle.acyclic.specs.Oriented.{must_of, oriented_edges}
use Rattle.rows.proofs.StepLaws.{StepLow, same, loop-step, end_step}
use Rattle.layering.specs.Calls.{table_rows_found, rows_of_table, rows_call}

pub ranked-step : (n : ℕ) (edges : List TableEdge) {f : Refusal} → n ≤ max_steps → table_rows_found n edges ≡ refused f → StepLow f
unfolding table_rows_found
ranked-step n edges h e = loop-step n (must_of edges) (rows_of n (oriented_edges n edges)) h e

pub table_step : (bytes : List ℕ) {f : Refusal} → rows_of_table bytes ≡ refused f → StepLow f
unfolding rows_of_table
table_step bytes {f} e = go (read bytes) refl e
  where
    go : (o : Outcome Contents) → read bytes ≡ o → then_do o (λ t. table_rows_found (length t.steps) t.edges) ≡ refused f → StepLow f
    go (done t) r e = ranked-step (length t.steps) t.edges (read-fair bytes r).few_steps e
    go (refused g) r e = subst StepLow (same e) (omega (arith, read-alone bytes r))

pub rows-call-step : (bytes old : List ℕ) (f : Refusal) → numbers_of f ≡ (rows_call bytes old).numbers → StepLow f
unfolding rows_call
rows-call-step bytes old f e = end_step (rows_of_table bytes) old f (λ g. table_step bytes) e

-- Lent edges that were accepted before document 02 raised the limits are judged and placed as they were, and their rows fit a byte.
use mathlib.Core.Path.{◌≡◌, refl}
use mathlib.Core.Bool.{Bool, true, false}
use mathlib.Core.List.{List}
use Prim.Native.Nat.{ℕ, ◌≤◌}
use native.Mathlib.Omega.{arith}
use borrow.Author.Tests.{le-leb}
use lib.Dec.{leb}
use lib.ListN.{length}
use Rattle.graph.specs.declared.Edge.{Edge}
use Rattle.graph.specs.Rows.{at}
use Rattle.outcome.specs.declared.Refusal.TheVariants.{ManySteps, ManyEdges}
use Rattle.table.specs.Limits.{max_steps, max_edges, old_size}
use Rattle.outcome.specs.Refusal.{Outcome, done, refused, then_do, demand}
use Rattle.rows.specs.Answers.{rows_found}
use Rattle.rows.specs.Limits.{old_top_row}
use Rattle.rows.proofs.PlacedLaws.{found_rows}
use Rattle.rows.proofs.HeightLaws.{rows-byte}
use Rattle.edgelist.specs.Calls.{records_judged, rows_of_records}
use Rattle.edgelist.proofs.JudgeLaws.{judged-fair}

module _ (n : ℕ) (edges : List Edge) where
  -- neither limit matters to a list within the old ones
  pub records-before : n ≤ old_size.steps → length edges ≤ old_size.edges → rows_of_records n edges ≡ then_do (records_judged n edges) λ _. rows_found n edges
  unfolding rows_of_records
  records-before few fewer = simp (le-leb n max_steps (omega (arith, few)), le-leb (length edges) max_edges (omega (arith, fewer)))

  -- rows of no more steps than the old limit, whatever else there is
  pub records-byte : {rows : List ℕ} → rows_of_records n edges ≡ done rows → n ≤ old_size.steps → (v : ℕ) → at rows v ≤ old_top_row
  unfolding rows_of_records
  records-byte {rows} e few v = steps (leb n max_steps) e
    where
      judged : (o : Outcome (Unit {0})) → records_judged n edges ≡ o → then_do o (λ _. rows_found n edges) ≡ done rows → at rows v ≤ old_top_row
      judged (done u) j e = rw (found_rows n edges e) (rows-byte n edges few (λ i h. (judged-fair n edges j i h).gap_low) v)
      judged (refused r) j e = let z : ◌≡◌ {A = ℕ} 0 1 = cc in absurd (omega arith)

      counted : (b : Bool) → demand b ManyEdges (then_do (records_judged n edges) λ _. rows_found n edges) ≡ done rows → at rows v ≤ old_top_row
      counted true e = judged (records_judged n edges) refl e
      counted false e = let z : ◌≡◌ {A = ℕ} 0 1 = cc in absurd (omega arith)

      steps : (b : Bool) → demand b ManySteps (demand (leb (length edges) max_edges) ManyEdges (then_do (records_judged n edges) λ _. rows_found n edges)) ≡ done rows
          → at rows v ≤ old_top_row
      steps true e = counted (leb (length edges) max_edges) e
      steps false e = let z : ◌≡◌ {A = ℕ} 0 1 = cc in absurd (omega arith)

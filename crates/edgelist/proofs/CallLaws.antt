-- The outcome of lent edges, by cases: what its parts found is what its definition says.
use mathlib.Core.Path.{◌≡◌, sym, subst}
use mathlib.Core.List.{List}
use Prim.Native.Nat.{ℕ, ◌≤◌, ◌<◌}
use borrow.Author.Tests.{le-leb, lt-leb}
use lib.ListN.{length}
use Rattle.std.specs.Prelude.{Result}
use Rattle.graph.specs.declared.Edge.{Edge}
use Rattle.outcome.specs.declared.Refusal.{Refusal}
use Rattle.outcome.specs.declared.Refusal.TheVariants.{ManySteps, ManyEdges}
use Rattle.table.specs.Limits.{max_steps, max_edges}
use Rattle.outcome.specs.Refusal.{done, refused}
use Rattle.rows.specs.declared.types.RowsFound.{RowsFound}
use Rattle.rows.specs.Answers.{rows_found}
use Rattle.rows.specs.Placed.{held_rows, FairEdges, Placed, EdgesPlaced, RowsHandedOut}
use Rattle.rows.proofs.StoreLaws.{handed-best}
use Rattle.edgelist.specs.Calls.{records_judged, rows_of_records, record_call}
use Rattle.edgelist.specs.Lent.{RecordsPlaced, RecordsAnswered}
use Rattle.edgelist.proofs.JudgeLaws.{judged-fair}

module _ (n : ℕ) (edges : List Edge) where
  pub records-many-steps : max_steps < n → rows_of_records n edges ≡ refused ManySteps
  unfolding rows_of_records
  records-many-steps h = simp (lt-leb n max_steps h)

  module _ (few : n ≤ max_steps) where
    pub records-many-edges : max_edges < length edges → rows_of_records n edges ≡ refused ManyEdges
    unfolding rows_of_records
    records-many-edges h = simp (le-leb n max_steps few, lt-leb (length edges) max_edges h)

    module _ (fewer : length edges ≤ max_edges) where
      pub records-fault : {f : Refusal} → records_judged n edges ≡ refused f → rows_of_records n edges ≡ refused f
      unfolding rows_of_records
      records-fault e = simp (le-leb n max_steps few, le-leb (length edges) max_edges fewer, e)

      module _ (judged : records_judged n edges ≡ done tt) where
        outcome : rows_of_records n edges ≡ rows_found n edges
        unfolding rows_of_records
        outcome = simp (le-leb n max_steps few, le-leb (length edges) max_edges fewer, judged)

        pub records-fair : FairEdges n edges
        records-fair = record { few_steps = few; few_edges = fewer; each = judged-fair n edges judged }

        pub records-placed : {r : Result RowsFound Refusal} → EdgesPlaced n edges r → RecordsPlaced n edges r
        records-placed {r} p = subst (λ o. Placed n edges o r) (sym outcome) p

-- what the call promises
pub record-call : (n : ℕ) (edges : List Edge) (f : Result RowsFound Refusal) (old new : List ℕ) (r : Result Unit Refusal) → RecordsPlaced n edges f
    → RowsHandedOut (held_rows f) old new r
    → RecordsAnswered n edges old new r
unfolding record_call
record-call n edges f old new r p h =
    let k : RowsHandedOut (rows_of_records n edges) old new r = subst (λ o. RowsHandedOut o old new r) p.says h in
    (k.numbers, (k.rows, handed-best n edges old new p k))

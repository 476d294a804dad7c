-- What is answered of lent edges whose copy stands in flat lists.
use Rattle.std.specs.Prelude.{◌≡◌, List, ℕ, length, Result}
use Rattle.graph.specs.declared.Edge.{Edge}
use Rattle.outcome.specs.declared.Refusal.{Refusal}
use Rattle.flatten.specs.Flat.{Flat}
use Rattle.flatten.specs.Flat.{flat_edges}
use Rattle.flatten.specs.Records.{copied}
use Rattle.rows.specs.declared.types.RowsFound.{RowsFound}
use Rattle.rows.specs.Answers.{rows_numbers}
use Rattle.rows.specs.Placed.{Placed}
use Rattle.edgelist.specs.Calls.{rows_of_records, record_call, RecordsBest}

-- the rows of edges that are lent
abbrev pub RecordsPlaced : ℕ → List Edge → Result RowsFound Refusal → Type 0
RecordsPlaced n edges r = Placed n edges (rows_of_records n edges) r

-- the rows of m edges, whatever edges the lists were made of
pub record LentPlaced (n m : ℕ) (flat : Flat) (r : Result RowsFound Refusal) : Type 0 where
  pub placed : (edges : List Edge) → m ≡ length edges → flat_edges flat ≡ copied edges → RecordsPlaced n edges r

-- the promise of the record form: its answer and its buffer, and that rows are the best
abbrev pub RecordsAnswered : ℕ → List Edge → List ℕ → List ℕ → Result Unit Refusal → Type 0
RecordsAnswered n edges old new r =
    (rows_numbers r ≡ (record_call n edges old).numbers) × ((new ≡ (record_call n edges old).rows) × RecordsBest n edges (rows_numbers r) new)

-- the same, whatever edges the lists were made of
pub record LentAnswered (n m : ℕ) (flat : Flat) (old new : List ℕ) (r : Result Unit Refusal) : Type 0 where
  pub answered : (edges : List Edge) → m ≡ length edges → flat_edges flat ≡ copied edges → RecordsAnswered n edges old new r

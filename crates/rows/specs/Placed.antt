-- What the functions behind the calls answer, and what they ask for.
use Rattle.std.specs.Prelude.{◌≡◌, List, ℕ, ◌≤◌, ◌<◌, length, get_or, Result, Ok, Err, IfOk}
use Rattle.graph.specs.declared.Edge.{Edge}
use Rattle.graph.specs.Rows.{at, no_edge, total, Best}
use Rattle.outcome.specs.declared.Refusal.{Refusal}
use Rattle.table.specs.Limits.{max_steps, max_edges, max_weight}
use Rattle.outcome.specs.Refusal.{Outcome, done, refused}
use Rattle.table.specs.Fair.{FairEdge}
use Rattle.rows.specs.declared.types.RowsFound.{RowsFound}
use Rattle.acyclic.specs.Ends.{NodeEnds}
use Rattle.rows.specs.Answers.{rows_found, rows_end, rows_numbers}
use Rattle.rows.specs.Limits.{top_row}

-- edges between n steps, all within the limits
pub record FairEdges (n : ℕ) (edges : List Edge) : Type 0 where
  pub few_steps : n ≤ max_steps
  pub few_edges : length edges ≤ max_edges
  pub each : (i : ℕ) → i < length edges → FairEdge n (get_or edges i no_edge)

-- what the total asks for: ends, weights and rows within the limits, and no edge points up
pub record RowsSummable (from to weight rows : List ℕ) : Type 0 where
  pub ends : NodeEnds (length rows) from to
  pub weight_long : length weight ≡ length from
  pub few : length from ≤ max_edges
  pub weights : (i : ℕ) → i < length from → at weight i ≤ max_weight
  pub kept : (i : ℕ) → i < length from → at rows (at from i) ≤ at rows (at to i)
  pub low : (v : ℕ) → v < length rows → at rows v ≤ top_row

-- the outcome that an answer holds
abbrev pub held_rows : Result RowsFound Refusal → Outcome (List ℕ)
held_rows (Ok f) = done f.rows.items
held_rows (Err r) = refused r

-- the best rows of the edges, one a step, and their total
pub record RowsPlaced (edges : List Edge) (n : ℕ) (f : RowsFound) : Type 0 where
  pub best : Best n edges f.rows.items
  pub summed : f.total ≡ total edges (at f.rows.items)

-- all of the answer; where it is not refused, the best rows of the edges with their total
pub record Placed (n : ℕ) (edges : List Edge) (what : Outcome (List ℕ)) (r : Result RowsFound Refusal) : Type 0 where
  pub says : held_rows r ≡ what
  pub placed : IfOk r (RowsPlaced edges n)

-- the rows of edges between n steps
abbrev pub EdgesPlaced : ℕ → List Edge → Result RowsFound Refusal → Type 0
EdgesPlaced n edges r = Placed n edges (rows_found n edges) r

-- an outcome handed out in a buffer
pub record RowsHandedOut (what : Outcome (List ℕ)) (old new : List ℕ) (r : Result Unit Refusal) : Type 0 where
  pub numbers : rows_numbers r ≡ (rows_end what old).numbers
  pub rows : new ≡ (rows_end what old).rows

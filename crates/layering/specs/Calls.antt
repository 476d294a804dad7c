-- The calls of the row finder for a table: what each answers, and what the buffer lent for rows holds at its end.
use Rattle.std.specs.Prelude.{◌≡◌, Bool, List, [], ◌∷◌, ℕ, length, Option, Some, None, Result, Ok, Err}
use Rattle.arrayvec.specs.ArrayVec.{ArrayVec}
use Rattle.graph.specs.declared.Edge.{Edge}
use Rattle.graph.specs.declared.TableEdge.{TableEdge}
use Rattle.graph.specs.Search.{rows_of}
use Rattle.graph.specs.Directed.{directed_by}
use Rattle.outcome.specs.declared.Refusal.{Refusal}
use Rattle.outcome.specs.Refusal.{Outcome, done, refused, then_do, told, bare, numbers_of}
use Rattle.table.specs.declared.types.Table.{Table}
use Rattle.table.specs.Table.{Contents, contents_of, read}
use Rattle.table.specs.Calls.{contents_in}
use Rattle.acyclic.specs.Loops.{lowest_on_loop}
use Rattle.acyclic.specs.Oriented.{must_of, oriented_edges, turned_edges}
use Rattle.rows.specs.declared.types.RowsFound.{RowsFound}
use Rattle.rows.specs.Answers.{unless_loop, rows_found, rows_by, total_by, RowsEnd, rows_end, RowsBest}
use Rattle.rows.specs.Placed.{Placed, EdgesPlaced}
use Rattle.layering.specs.declared.place.RankedEdges.{RankedEdges}
use Rattle.layering.specs.declared.types.TableRows.{TableRows}
use Rattle.layering.specs.declared.types.Unplaced.{Unplaced}

-- ---- the rows call

-- The rows of a table's edges between n steps. A loop of must edges is refused (11), with the lowest step on one; the rows are those of the
-- edges as they are kept or turned.
unfoldable pub table_rows_found : ℕ → List TableEdge → Outcome (List ℕ)
table_rows_found n edges = unless_loop (lowest_on_loop n (must_of edges)) (rows_of n (oriented_edges n edges))

-- the table's refusals, then 11
unfoldable pub rows_of_table : List ℕ → Outcome (List ℕ)
rows_of_table bytes = then_do (read bytes) λ t. table_rows_found (length t.steps) t.edges

-- a table's edges as they are kept or turned, and which of them are turned
abbrev pub oriented_in : Contents → List Edge
oriented_in t = oriented_edges (length t.steps) t.edges

abbrev pub turned_in : Contents → List Bool
turned_in t = turned_edges (length t.steps) t.edges

-- the steps that a table's bytes say, and their edges as they are kept or turned
abbrev pub steps_in : List ℕ → ℕ
steps_in bytes = length (contents_of (read bytes)).steps

abbrev pub edges_in : List ℕ → List Edge
edges_in bytes = oriented_in (contents_of (read bytes))

unfoldable pub rows_call : List ℕ → List ℕ → RowsEnd
rows_call bytes old = rows_end (rows_of_table bytes) old

-- demand 3 of the steps and edges that a table's bytes say, the edges as kept or turned: where a call tells 0, the first entries of the
-- buffer as it leaves it are their best rows
abbrev pub TableBest : List ℕ → List ℕ → List ℕ → Type 0
TableBest bytes numbers rows = RowsBest (steps_in bytes) (edges_in bytes) numbers rows

-- ---- what a layer above builds on

-- whatever is found for the edges as these flags direct them is found for the table's
pub record RankedBy (n : ℕ) (edges : List TableEdge) (flags : List Bool) : Type 0 where
  pub placed : (r : Result RowsFound Refusal) → EdgesPlaced n (directed_by flags edges) r → Placed n (oriented_edges n edges) (table_rows_found n edges) r

-- which edges of a table of n steps are turned: with these the rows of the edges are those of the table; or that the table is refused
abbrev pub EdgesTurned : ℕ → List TableEdge → Result (ArrayVec Bool) Refusal → Type 0
EdgesTurned n edges (Ok turned) =
    (turned.items ≡ turned_edges n edges) × ((rows_found n (oriented_edges n edges) ≡ table_rows_found n edges) × RankedBy n edges turned.items)
EdgesTurned n edges (Err r) = table_rows_found n edges ≡ refused r

-- what is found for the edges of a table of n steps: which are turned, and the rows of all as kept or turned; or that the table is refused
abbrev pub EdgesRanked : ℕ → List TableEdge → Result RankedEdges Refusal → Type 0
EdgesRanked n edges (Ok r) = (r.turned.items ≡ turned_edges n edges) × Placed n (oriented_edges n edges) (table_rows_found n edges) (Ok r.found)
EdgesRanked n edges (Err f) = Placed n (oriented_edges n edges) (table_rows_found n edges) (Err f)

-- the numbers of the outcome, the steps and edges of the table, which edges are turned, the rows, and their total
pub record PlaceEnd : Type 0 where
  pub numbers : List ℕ
  pub contents : Contents
  pub turned : List Bool
  pub rows : List ℕ
  pub sum : ℕ

-- which edges are turned; none where there are no rows
abbrev pub flags_by : Outcome (List ℕ) → List Bool → List Bool
flags_by (done rows) flags = flags
flags_by (refused r) flags = []

-- 0 or the refusal's number. The table is there also where it is refused for a loop. With rows there is one flag an edge and one row a step,
-- with a refusal there are no flags and no rows.
abbrev pub place_by : Contents → Outcome (List ℕ) → PlaceEnd
place_by t o =
    record {
      numbers = told bare o;
      contents = t;
      turned = flags_by o (turned_in t);
      rows = rows_by o;
      sum = total_by (oriented_in t) o;
    }

unfoldable pub place_call : List ℕ → PlaceEnd
place_call bytes = place_by (contents_of (read bytes)) (rows_of_table bytes)

-- the steps and edges of a table that comes with a refusal; none where the reader refuses
abbrev pub contents_beside : Option Table → Contents
contents_beside (Some t) = contents_in t
contents_beside None = record { steps = []; edges = [] }

-- the reader's refusal, beside which there is no table
abbrev pub unread : Refusal → Unplaced
unread r = record { refusal = r; table = None }

-- what the code answers, in numbers
abbrev pub place_end : Result TableRows Unplaced → PlaceEnd
place_end (Ok r) =
    record { numbers = 0 ∷ []; contents = contents_in r.table; turned = r.turned.items; rows = r.found.rows.items; sum = r.found.total }
place_end (Err u) = record { numbers = numbers_of u.refusal; contents = contents_beside u.table; turned = []; rows = []; sum = 0 }

-- What is found for edges, and what a call that hands it out answers and leaves in a buffer.
use Rattle.std.specs.Prelude.{◌≡◌, cond, List, [], ◌∷◌, ◌++◌, ℕ, leb, length, take, drop, Option, Some, None, Result}
use Rattle.graph.specs.declared.Edge.{Edge}
use Rattle.graph.specs.Rows.{at, total, Best}
use Rattle.graph.specs.Search.{rows_of}
use Rattle.outcome.specs.declared.Refusal.{Refusal}
use Rattle.outcome.specs.declared.Refusal.TheVariants.{Loop, ShortBuffer}
use Rattle.outcome.specs.Refusal.{Outcome, done, refused, numbers_of, refusal_in, answered, bare}
use Rattle.acyclic.specs.Loops.{lowest_on_loop}

-- ---- rows of edges

-- refused where there is a lowest step on a loop (refusal 11), else the rows
abbrev pub unless_loop : Option ℕ → List ℕ → Outcome (List ℕ)
unless_loop None rows = done rows
unless_loop (Some s) rows = refused (Loop s)

unfoldable pub rows_found : ℕ → List Edge → Outcome (List ℕ)
rows_found n edges = unless_loop (lowest_on_loop n edges) (rows_of n edges)

-- the rows of an outcome, and their total; of a refusal none
abbrev pub rows_by : Outcome (List ℕ) → List ℕ
rows_by (done rows) = rows
rows_by (refused r) = []

abbrev pub total_by : List Edge → Outcome (List ℕ) → ℕ
total_by edges (done rows) = total edges (at rows)
total_by edges (refused r) = 0

-- ---- the buffer

-- a call's answer in numbers, and the buffer at its end
pub record RowsEnd : Type 0 where
  pub numbers : List ℕ
  pub rows : List ℕ

-- The rows are the first entries, one a step, and the others stay. A buffer with fewer entries than steps is refused (13), after every
-- other fault, and a refusal leaves the buffer as it was.
abbrev pub rows_end : Outcome (List ℕ) → List ℕ → RowsEnd
rows_end (refused r) old = record { numbers = numbers_of r; rows = old }
rows_end (done rows) old =
    cond (leb (length rows) (length old)) (record { numbers = 0 ∷ []; rows = rows ++ drop (length rows) old })
    (record { numbers = numbers_of ShortBuffer; rows = old })

-- what the code answers, in numbers
abbrev pub rows_numbers : Result Unit Refusal → List ℕ
rows_numbers r = answered bare r

-- ---- demand 3

-- Where a call tells 0, the first entries of the buffer as it leaves it, one a step, are the best rows.
abbrev pub RowsBest : ℕ → List Edge → List ℕ → List ℕ → Type 0
RowsBest n edges numbers rows = refusal_in numbers ≡ 0 → Best n edges (take n rows)

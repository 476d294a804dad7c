-- The starred cases of document 01 that the row finder decides, and the same loop with a soft edge.
use Rattle.std.specs.Prelude.{List, [], ◌∷◌, ℕ}
use Rattle.table.specs.Hex.{hex}
use Rattle.outcome.specs.Refusal.{told}
use Rattle.table.specs.Starred.{Case, case, sample}
use Rattle.rows.specs.Answers.{total_by}
use Rattle.layering.specs.Calls.{rows_of_table, edges_in}

-- the numbers of finding rows, the total and the rows
abbrev pub tell_rows : List ℕ → List ℕ
tell_rows bytes = told (λ rows. total_by (edges_in bytes) (rows_of_table bytes) ∷ rows) (rows_of_table bytes)

-- the sample chart, the empty one, one with a step that is its own neighbour, two steps that point at each other, and the same with a soft edge, which is
-- turned; with each 0, the total and the rows, or the refusal's number and what comes with it
abbrev pub starred_rows : List Case
starred_rows =
    case sample (0 ∷ 14 ∷ 0 ∷ 1 ∷ 3 ∷ 2 ∷ []) ∷
    case (hex "01 00 00") (0 ∷ 0 ∷ []) ∷
    case (hex "01 01 00 01 41 01 00 00") (9 ∷ []) ∷
    case (hex "01 02 00 01 41 00 01 42 02 00 01 01 01 01 00 01 01") (11 ∷ 0 ∷ []) ∷
    case (hex "02 02 00 01 41 00 01 42 02 00 01 01 01 00 01 00 02 03 01") (0 ∷ 8 ∷ 0 ∷ 2 ∷ []) ∷
    []

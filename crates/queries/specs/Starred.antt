-- The starred cases of document 01 that the reader alone decides, as document 02 leaves them, and two of edition 2: an edge with a firmness
-- that there is not, and one that is soft.
use Rattle.std.specs.Prelude.{List, [], ◌∷◌}
use Rattle.table.specs.Hex.{hex}
use Rattle.table.specs.Starred.{Case, case}

-- with each table the numbers of the counts call
abbrev pub starred_counts : List Case
starred_counts =
    case (hex "01 00 00") (0 ∷ 0 ∷ 0 ∷ []) ∷
    case (hex "81 00 00 00") (2 ∷ []) ∷
    case (hex "") (1 ∷ []) ∷
    case (hex "02") (1 ∷ []) ∷
    case (hex "03") (3 ∷ []) ∷
    case (hex "02 02 00 01 41 00 01 42 01 00 01 01 01 02") (15 ∷ []) ∷
    case (hex "02 02 00 01 41 00 01 42 01 00 01 01 01 01") (0 ∷ 2 ∷ 1 ∷ []) ∷
    case (hex "80 80 80") (2 ∷ []) ∷
    case (hex "01 40") (1 ∷ []) ∷
    case (hex "01 41") (1 ∷ []) ∷
    case (hex "01 60") (1 ∷ []) ∷
    case (hex "01 61") (4 ∷ []) ∷
    case (hex "01 00 00 00") (10 ∷ []) ∷
    case (hex "01 01 00 01 41 01 00 00") (9 ∷ []) ∷
    []

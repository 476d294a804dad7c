-- The starred cases of document 01, all of them, as document 02 leaves them; and with the same marks a table in which a soft edge is turned,
-- one whose firmness there is not, and one with three edges between two steps, of which the two must edges are one line.
use Rattle.std.specs.Prelude.{List, [], ◌∷◌}
use Rattle.table.specs.Hex.{hex}
use Rattle.table.specs.Starred.{Case, case, sample}
use Rattle.labels.specs.Text.{text}

-- with each table the bytes that are printed for it
abbrev pub starred_listings : List Case
starred_listings =
    case sample (text "chart 4 4 4 14 0\n0 warm=W30\n1 lock=C |2\n2 |1 level=A50\n3 sweep=C\n") ∷
    case (hex "01 00 00") (text "chart 0 0 0 0 0\n") ∷
    case (hex "") (text "refused 1\n") ∷
    case (hex "02") (text "refused 1\n") ∷
    case (hex "03") (text "refused 3\n") ∷
    case (hex "81 00 00 00") (text "refused 2\n") ∷
    case (hex "80 80 80") (text "refused 2\n") ∷
    case (hex "01 40") (text "refused 1\n") ∷
    case (hex "01 41") (text "refused 1\n") ∷
    case (hex "01 60") (text "refused 1\n") ∷
    case (hex "01 61") (text "refused 4\n") ∷
    case (hex "01 00 00 00") (text "refused 10\n") ∷
    case (hex "01 01 00 01 41 01 00 00") (text "refused 9\n") ∷
    case (hex "01 02 00 01 41 00 01 42 02 00 01 01 01 01 00 01 01") (text "refused 11 0\n") ∷
    case (hex "02 02 00 01 41 00 01 42 02 00 01 01 01 00 01 00 02 03 01") (text "chart 2 2 3 8 0\n0 A=C\n1 |0 ^1\n2 B=C\n") ∷
    case (hex "02 02 00 01 41 00 01 42 02 00 01 01 01 00 01 00 02 03 02") (text "refused 15\n") ∷
    case (hex "02 02 00 01 41 00 01 42 03 00 01 01 01 00 00 01 02 03 01 00 01 03 02 00") (text "chart 2 3 4 18 0\n0 A=C\n1 |0 |1\n2 |0 |1\n3 B=C\n") ∷
    []

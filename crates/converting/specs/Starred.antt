-- Stored tables with what is written for each, computed in proofs/StarredLaws.antt.
use Rattle.std.specs.Prelude.{List, [], ◌∷◌}
use Rattle.table.specs.Hex.{hex}
use Rattle.table.specs.Starred.{Case, case, sample}
use Rattle.labels.specs.Text.{text}

abbrev pub starred_converted : List Case
starred_converted =
    -- the sample stays as it is
    case sample sample
    -- no step and no edge: a long form, the starred one of document 01, and edition 2
    ∷ case (hex "81 00 00 00") (hex "01 00 00")
    ∷ case (hex "02 00 00") (hex "01 00 00")
    -- one step; long forms in every number
    ∷ case (hex "81 80 00 81 00 80 80 00 83 80 00 35 42 34 80 00") (hex "01 01 00 03 35 42 34 00")
    -- edition 2 without a soft edge, and with one; the steps have numbers of two bytes
    ∷ case (hex "82 00 02 01 8F CE 00 01 61 02 F0 81 00 01 62 81 00 00 81 80 00 01 80 81 00 80 00") (hex "01 02 01 8F 4E 01 61 02 F0 01 01 62 01 00 01 01 80 01")
    ∷ case (hex "82 00 02 01 8F CE 00 01 61 02 F0 81 00 01 62 81 00 00 81 80 00 01 80 81 00 81 00") (hex "02 02 01 8F 4E 01 61 02 F0 01 01 62 01 00 01 01 80 01 01")
    -- a loop of must edges is not looked for
    ∷ case (hex "01 02 00 01 41 00 01 42 02 00 01 01 01 01 00 01 01") (hex "01 02 00 01 41 00 01 42 02 00 01 01 01 01 00 01 01")
    -- refused: a third byte that says that a fourth follows, a value in a long form, a firmness there is not
    ∷ case (hex "80 80 80") (text "refused 2\n")
    ∷ case (hex "83 80 00") (text "refused 3\n")
    ∷ case (hex "02 02 00 01 41 00 01 42 01 00 01 01 01 82 00") (text "refused 15\n")
    ∷ []

-- Tables and their shortest tables, computed in proofs/StarredLaws.antt.
use Rattle.std.specs.Prelude.{List, [], ◌∷◌}
use Rattle.table.specs.Hex.{hex}
use Rattle.table.specs.Starred.{Case, case, sample}

-- what is expected is the shortest table
abbrev pub starred_shortest : List Case
starred_shortest =
    -- the sample is its own
    case sample sample
    -- no step and no edge, in edition 2
    ∷ case (hex "02 00 00") (hex "01 00 00")
    -- edition 2 without a soft edge, and with one; the steps have numbers of two bytes
    ∷ case (hex "02 02 01 8F 4E 01 61 02 F0 01 01 62 01 00 01 01 80 01 00") (hex "01 02 01 8F 4E 01 61 02 F0 01 01 62 01 00 01 01 80 01")
    ∷ case (hex "02 02 01 8F 4E 01 61 02 F0 01 01 62 01 00 01 01 80 01 01") (hex "02 02 01 8F 4E 01 61 02 F0 01 01 62 01 00 01 01 80 01 01")
    -- a loop of must edges is not looked for
    ∷ case (hex "01 02 00 01 41 00 01 42 02 00 01 01 01 01 00 01 01") (hex "01 02 00 01 41 00 01 42 02 00 01 01 01 01 00 01 01")
    ∷ []

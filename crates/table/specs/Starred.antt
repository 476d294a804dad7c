-- How the layers write the starred cases of document 01 down.
use Rattle.std.specs.Prelude.{List, ℕ}
use Rattle.table.specs.Hex.{hex}

-- the bytes of a table, and what is expected of them; each list of cases says what that is
pub record Case : Type 0 where
  pub input : List ℕ
  pub expected : List ℕ

abbrev pub case : List ℕ → List ℕ → Case
case input expected = record { input = input; expected = expected }

-- the sample table of document 01
abbrev pub sample : List ℕ
sample = hex "01 04 02 1E 04 77 61 72 6D 00 04 6C 6F 63 6B 00 05 73 77 65 65 70 01 32 05 6C 65 76 65 6C 04 00 01 01 01 01 02 02 03 00 03 01 01 03 02 01 05"

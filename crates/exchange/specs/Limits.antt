-- The limits of the search for the best order of one row, named once for the definitions; `src/limits.rt` names the same numbers for the
-- code. Document 02, request 9.
use Rattle.std.specs.Prelude.{ℕ}

-- the most points that the row may have
abbrev pub max_row_points : ℕ
max_row_points = 32

-- the most tries
abbrev pub max_tries : ℕ
max_tries = 50000

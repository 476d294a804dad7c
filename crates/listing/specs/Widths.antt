-- How long a listing can be. `src/limits.rt` names the same numbers for the code.
use Rattle.std.specs.Prelude.{ℕ, suc, ◌+◌, ◌*◌}
use Rattle.table.specs.Limits.{max_name}
use Rattle.points.specs.Limits.{max_points}
use Rattle.rows.specs.Limits.{top_row}

-- line one: the word, and behind a blank each the steps (2 digits), edges (3), rows (3), total (8) and crossings (6); and its end
abbrev pub head_bytes : ℕ
head_bytes = 33

-- the line of a row without its points: the row's number (3 digits) and the end
abbrev pub row_bytes : ℕ
row_bytes = 4

-- a point: a blank, and a step's name, its sign, its letter and a tolerance (4 digits); a dummy is shorter
abbrev pub point_bytes : ℕ
point_bytes = 7 + max_name

-- the longest listing is no longer: as many rows as there can be, and as many points
abbrev pub max_listing : ℕ
max_listing = head_bytes + suc top_row * row_bytes + max_points * point_bytes

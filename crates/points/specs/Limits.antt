-- The limit of a chart, named once for the definitions; `src/limits.rt` names the same number for the code.
use Rattle.std.specs.Prelude.{ℕ}

-- steps and dummies of a chart (document 01: points)
abbrev pub max_points : ℕ
max_points = 1024

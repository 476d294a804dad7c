-- How large the numbers of a table are, and how many bytes a shortest table has at most.
use Rattle.std.specs.Prelude.{ℕ}
use Rattle.table.specs.declared.rule.Rule.TheVariants.{Shortest}
use Rattle.table.specs.Limits.{max_table}

-- the numbers of a table are below this, so that each has at most two bytes
abbrev pub number_limit : ℕ
number_limit = 0x4000

-- a shortest table is one that is accepted today, so that it is no longer than these
abbrev pub max_shortest : ℕ
max_shortest = max_table Shortest

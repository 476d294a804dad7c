-- The limits of documents 01 and 02, each named once for the definitions; `src/limits.rt` names the same numbers for the code.
use Rattle.std.specs.Prelude.{cond, ℕ, ◌+◌, ◌*◌, ltb}
use Rattle.table.specs.declared.rule.Rule.{Rule}
use Rattle.table.specs.declared.rule.Rule.TheVariants.{Old, Shortest}

-- the editions that a table may have: the first has must edges only, the last (document 02) a firmness for each edge
abbrev pub min_edition : ℕ
min_edition = 1

abbrev pub max_edition : ℕ
max_edition = 2

abbrev pub max_steps : ℕ
max_steps = 96

abbrev pub max_edges : ℕ
max_edges = 288

-- how many steps and how many edges a table may have
pub record Size : Type 0 where
  pub steps : ℕ
  pub edges : ℕ

abbrev pub max_size : Size
max_size = record { steps = max_steps; edges = max_edges }

-- and how many they might be before document 02 (its fourth request) let tables grow
abbrev pub old_size : Size
old_size = record { steps = 64; edges = 192 }

-- the kinds are numbered 0 to 2
abbrev pub max_kind : ℕ
max_kind = 2

-- of an adjustment, in hundredths of a dB
abbrev pub max_tolerance : ℕ
max_tolerance = 9999

-- of a wait
abbrev pub min_minutes : ℕ
min_minutes = 1

abbrev pub max_minutes : ℕ
max_minutes = 240

-- bytes in a name
abbrev pub min_name : ℕ
min_name = 1

abbrev pub max_name : ℕ
max_name = 16

-- the bytes that a name may have
abbrev pub min_name_byte : ℕ
min_name_byte = 0x21

abbrev pub max_name_byte : ℕ
max_name_byte = 0x7E

abbrev pub min_gap : ℕ
min_gap = 1

abbrev pub max_gap : ℕ
max_gap = 4

abbrev pub max_weight : ℕ
max_weight = 255

-- the firmness of a soft edge; that of a must edge is 0, and there is no other
abbrev pub softness : ℕ
softness = 1

-- bytes in a number, at most
abbrev pub number_bytes : ℕ
number_bytes = 3

-- bytes in a number up to `high`, at most, by a rule: the old one takes groups of zeros behind it, the other has seven bits a byte and none to
-- spare
abbrev pub width : Rule → ℕ → ℕ
width Old high = number_bytes
width Shortest high = cond (ltb high 0x80) 1 (cond (ltb high 0x4000) 2 number_bytes)

-- bytes in a step, at most: its kind, what the kind adds, the length of its name, and the name
abbrev pub step_bytes : Rule → ℕ
step_bytes rule = width rule max_kind + width rule max_tolerance + (width rule max_name + max_name)

-- bytes in an edge of a table of n steps, at most: its ends, its gap and its weight, and its firmness
abbrev pub edge_bytes : Rule → ℕ → ℕ
edge_bytes rule n = width rule n + width rule n + (width rule max_gap + width rule max_weight) + width rule softness

-- no table that a rule accepts is longer: the edition, the count of steps and the steps, the count of edges and the edges
abbrev pub max_table : Rule → ℕ
max_table rule = width rule max_edition + (width rule max_steps + max_steps * step_bytes rule) + (width rule max_edges + max_edges * edge_bytes rule max_steps)

-- what a program takes from standard input: more than any table has that a rule accepts
abbrev pub max_input : ℕ
max_input = 8192

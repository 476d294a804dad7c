-- What the call of the reader answers.
use Rattle.std.specs.Prelude.{List, ℕ, Result, Ok, Err}
use Rattle.table.specs.declared.rule.Rule.{Rule}
use Rattle.table.specs.declared.rule.Rule.TheVariants.{Shortest}
use Rattle.table.specs.declared.types.Kind.TheVariants.{Check}
use Rattle.table.specs.declared.types.Step.{Step}
use Rattle.table.specs.declared.types.Table.{Table}
use Rattle.outcome.specs.declared.Refusal.{Refusal}
use Rattle.outcome.specs.Refusal.{Outcome, done, refused, told, bare}
use Rattle.table.specs.Table.{Contents, read_by, contents_of}

-- what stands past the end of a list of steps
abbrev pub no_step : Step
no_step = record { kind = Check; start = 0; len = 0 }

-- what a table in the code says
abbrev pub contents_in : Table → Contents
contents_in t = record { steps = t.steps.items; edges = t.edges.items }

-- the outcome that an answer of the code stands for
abbrev pub table_outcome : Result Table Refusal → Outcome Contents
table_outcome (Ok t) = done (contents_in t)
table_outcome (Err r) = refused r

-- what the call that reads a table answers: its numbers, and the steps and edges
pub record ReadEnd : Type 0 where
  pub numbers : List ℕ
  pub contents : Contents

-- an outcome in numbers; a refused table has no steps and no edges
abbrev pub end_of : Outcome Contents → ReadEnd
end_of o = record { numbers = told bare o; contents = contents_of o }

-- 0 or the refusal's number, and what the bytes write down
unfoldable pub read_call_by : Rule → List ℕ → ReadEnd
read_call_by rule bytes = end_of (read_by rule bytes)

abbrev pub read_call : List ℕ → ReadEnd
read_call bytes = read_call_by Shortest bytes

-- what the code answers, in numbers
abbrev pub read_end : Result Table Refusal → ReadEnd
read_end r = end_of (table_outcome r)

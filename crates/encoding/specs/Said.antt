-- What a table says apart from its bytes: the steps and the edges (document 02: arrows) by which document 02 compares tables. How many bytes
-- each number has, where a name stands, and the edition are left out; so two tables are equal where they say the same.
use Rattle.std.specs.Prelude.{List, map, ℕ, take, drop}
use Rattle.graph.specs.declared.TableEdge.{TableEdge}
use Rattle.table.specs.declared.types.Kind.{Kind}
use Rattle.table.specs.declared.types.Step.{Step}
use Rattle.table.specs.Table.{Contents}

-- a step: its kind with the number that the kind carries, and the bytes of its name
pub record SaidStep : Type 0 where
  pub kind : Kind
  pub name : List ℕ

-- the steps, and the edges with their firmness
pub record Said : Type 0 where
  pub steps : List SaidStep
  pub edges : List TableEdge

-- a step of a table, wherever its name stands there
abbrev pub said_step : List ℕ → Step → SaidStep
said_step bytes s = record { kind = s.kind; name = take s.len (drop s.start bytes) }

abbrev pub said : List ℕ → Contents → Said
said bytes c = record { steps = map (said_step bytes) c.steps; edges = c.edges }

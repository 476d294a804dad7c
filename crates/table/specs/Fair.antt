-- What the layers above may count on in a table that was accepted, by either rule. It follows from `read_by`: see proofs/FairLaws.antt.
use Rattle.std.specs.Prelude.{◌≡◌, List, ℕ, ◌+◌, ◌≤◌, ◌<◌, length, get_or}
use Rattle.graph.specs.declared.Edge.{Edge}
use Rattle.graph.specs.Directed.{no_table_edge, own_edge}
use Rattle.table.specs.declared.types.Kind.{Kind}
use Rattle.table.specs.declared.types.Kind.TheVariants.{Check, Adjust, Wait}
use Rattle.table.specs.declared.types.Step.{Step}
use Rattle.table.specs.Limits.{max_steps, max_edges, max_tolerance, min_minutes, max_minutes, min_name, max_name, min_gap, max_gap, max_weight}
use Rattle.table.specs.Table.{Contents}
use Rattle.table.specs.Calls.{no_step}

-- the number that a kind carries, where it carries one, is within its limits
abbrev pub KindInRange : Kind → Type 0
KindInRange Check = Unit {0}
KindInRange (Adjust t) = t ≤ max_tolerance
KindInRange (Wait m) = (min_minutes ≤ m) × (m ≤ max_minutes)

-- a step's name has 1 to 16 bytes and lies within the table, and its kind's number is in range
pub record FairStep (s : List ℕ) (step : Step) : Type 0 where
  pub some : min_name ≤ step.len
  pub short : step.len ≤ max_name
  pub inside : step.start + step.len ≤ length s
  pub kind_in : KindInRange step.kind

-- an edge joins two different steps, of n steps, and has a gap and a weight in range
pub record FairEdge (n : ℕ) (e : Edge) : Type 0 where
  pub from_in : e.from < n
  pub to_in : e.to < n
  pub apart : e.to ≡ e.from → ⊥
  pub gap_some : min_gap ≤ e.gap
  pub gap_low : e.gap ≤ max_gap
  pub weight_low : e.weight ≤ max_weight

pub record Fair (s : List ℕ) (c : Contents) : Type 0 where
  pub few_steps : length c.steps ≤ max_steps
  pub few_edges : length c.edges ≤ max_edges
  pub each_step : (i : ℕ) → i < length c.steps → FairStep s (get_or c.steps i no_step)
  pub each_edge : (i : ℕ) → i < length c.edges → FairEdge (length c.steps) (own_edge (get_or c.edges i no_table_edge))

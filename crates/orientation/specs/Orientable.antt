-- What finding the direction of a table's edges asks for.
use Rattle.std.specs.Prelude.{List, ℕ, ◌≤◌, ◌<◌, length, get_or}
use Rattle.graph.specs.declared.TableEdge.{TableEdge}
use Rattle.graph.specs.Directed.{own_edge, no_table_edge}
use Rattle.table.specs.Limits.{max_steps, max_edges}
use Rattle.table.specs.Fair.{FairEdge}

-- edges join n steps, and all are within the limits
pub record Orientable (n : ℕ) (edges : List TableEdge) : Type 0 where
  pub few_steps : n ≤ max_steps
  pub few_edges : length edges ≤ max_edges
  pub each : (i : ℕ) → i < length edges → FairEdge n (own_edge (get_or edges i no_table_edge))

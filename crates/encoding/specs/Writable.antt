-- What the writing functions ask of steps and edges; those of every table that was read have it.
use Rattle.std.specs.Prelude.{List, ℕ, ◌≤◌, ◌<◌, length, get_or}
use Rattle.graph.specs.declared.TableEdge.{TableEdge}
use Rattle.graph.specs.Directed.{no_table_edge, own_edge}
use Rattle.table.specs.declared.types.Step.{Step}
use Rattle.table.specs.Limits.{max_steps, max_edges}
use Rattle.table.specs.Calls.{no_step}
use Rattle.table.specs.Fair.{FairStep, FairEdge}

-- steps, whose names stand in the bytes, keep the limits
pub record WritableSteps (bytes : List ℕ) (steps : List Step) : Type 0 where
  pub few : length steps ≤ max_steps
  pub each_step : (i : ℕ) → i < length steps → FairStep bytes (get_or steps i no_step)

-- and so do edges
pub record WritableEdges (edges : List TableEdge) : Type 0 where
  pub few : length edges ≤ max_edges
  pub each_edge : (i : ℕ) → i < length edges → FairEdge max_steps (own_edge (get_or edges i no_table_edge))

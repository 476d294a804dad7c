-- What the search for a stroke's point asks for.
use Rattle.std.specs.Prelude.{Bool, List, map, ℕ, ◌≤◌, ◌<◌, length, get_or}
use Rattle.graph.specs.declared.Edge.{Edge}
use Rattle.points.specs.Laying.{Chart}
use Rattle.merging.specs.declared.MergedEdge.{MergedEdge}
use Rattle.merging.specs.Merged.{no_merged_edge, drawn_edges}
use Rattle.ordering.specs.Calls.{point_count}
use Rattle.spacing.specs.Limits.{max_xs}

-- Merged edges, with a flag for the first edge of each; as they are drawn they lead down between steps in the rows ys, and have few points.
pub record Routable (ys : List ℕ) (lines : List MergedEdge) (turned : List Bool) : Type 0 where
  pub firsts : (i : ℕ) → i < length lines → (get_or lines i no_merged_edge).first < length turned
  pub chart : Chart ys (map (λ (e : Edge). e.from) (drawn_edges turned lines)) (map (λ (e : Edge). e.to) (drawn_edges turned lines))
  pub few : point_count ys (drawn_edges turned lines) ≤ max_xs

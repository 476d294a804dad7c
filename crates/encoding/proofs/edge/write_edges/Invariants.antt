-- The edges from the index on are still to be put.
use Rattle.std.proofs.Common.{drop}
use Rattle.labels.proofs.PageLaws.{Putting}
use Rattle.encoding.specs.Shortest.{short_edge, each}
use Rattle.encoding.proofs.edge.write_edges.Given as goal

abbrev pub invariant-loop-edge : goal.invariant-loop-edge
invariant-loop-edge g l = Putting l.initial.page.items (each (short_edge l.edition) l.edges) l.page.items (each (short_edge l.edition) (drop l.edge-index l.edges))

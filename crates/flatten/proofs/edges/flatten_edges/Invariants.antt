-- The first edges, each in its direction, are copied.
use mathlib.Core.Path.{◌≡◌}
use lib.ListN.{length, take}
use Rattle.graph.specs.Directed.{directed_by}
use Rattle.flatten.specs.Flat.{flat_edges}
use Rattle.flatten.proofs.edges.flatten_edges.Given as goal

abbrev pub invariant-loop-e : goal.invariant-loop-e
invariant-loop-e l = flat_edges l.flat ≡ take (length l.yielded) (directed_by l.turned l.edges)

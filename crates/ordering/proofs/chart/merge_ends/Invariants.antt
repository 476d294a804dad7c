-- The ends and weights of the first merged edges, each in its direction, stand in the lists.
use mathlib.Core.Path.{◌≡◌}
use lib.ListN.{take}
use Rattle.flatten.specs.Flat.{flat_edges}
use Rattle.merging.specs.Merged.{merged, drawn_edges}
use Rattle.ordering.proofs.chart.merge_ends.Given as goal

abbrev pub invariant-loop-line : goal.invariant-loop-line
invariant-loop-line l = flat_edges l.ends ≡ take l.line-index (drawn_edges l.turned (merged l.edges))

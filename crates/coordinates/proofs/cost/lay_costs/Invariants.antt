-- The costs of the first lines are laid.
use mathlib.Core.Path.{◌≡◌}
use lib.ListN.{length, take}
use Rattle.flatten.specs.Flat.{flat_edges}
use Rattle.coordinates.specs.Costing.{costs_from}
use Rattle.coordinates.proofs.cost.lay_costs.Given as goal

abbrev pub invariant-loop-tail : goal.invariant-loop-tail
invariant-loop-tail l = l.costs.items ≡ costs_from l.rows (take (length l.yielded) (flat_edges l.ends))

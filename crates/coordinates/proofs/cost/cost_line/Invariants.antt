-- The costs of the first segments stand behind those before.
use mathlib.Core.Path.{◌≡◌}
use mathlib.Core.List.{◌++◌}
use lib.ListN.{take}
use Rattle.coordinates.specs.Costing.{line_costs}
use Rattle.coordinates.proofs.cost.cost_line.Given as goal

abbrev pub invariant-loop-j : goal.invariant-loop-j
invariant-loop-j l = l.costs.items ≡ l.initial.costs.items ++ take l.j (line_costs l.weight l.k)

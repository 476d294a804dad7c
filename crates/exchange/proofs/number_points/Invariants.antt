-- The points so far are numbered.
use mathlib.Core.Path.{◌≡◌}
use Rattle.graph.specs.Search.{run}
use Rattle.exchange.proofs.number_points.Given as goal

abbrev pub invariant-loop-i : goal.invariant-loop-i
invariant-loop-i l = l.order.items ≡ run 0 l.i

-- The points at the first i places are named, and the other entries are as they were.
use mathlib.Core.Path.{◌≡◌}
use mathlib.Core.List.{◌++◌, map}
use lib.ListN.{take, drop}
use Rattle.graph.specs.Rows.{at}
use Rattle.rearranging.proofs.arrange.name_points.Given as goal

abbrev pub invariant-loop-i : goal.invariant-loop-i
invariant-loop-i l = l.out ≡ take l.i (map (at l.points) l.places) ++ drop l.i l.initial.out

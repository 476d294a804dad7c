use Rattle.lowest.specs.Lowest.{Propped}
use Rattle.lowest.proofs.prop_nodes.Given as goal

abbrev pub invariant-loop-a : goal.invariant-loop-a
invariant-loop-a l = Propped l.arcs.from.now l.arcs.to.now l.arcs.gap.now l.arcs.n l.y l.mark

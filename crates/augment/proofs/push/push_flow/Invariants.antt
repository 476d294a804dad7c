use Rattle.graph.specs.Rows.{at}
use Rattle.augment.proofs.PushLaws.{Way}
use Rattle.augment.proofs.push.push_flow.Given as goal

abbrev pub invariant-loop-cur : goal.invariant-loop-cur
invariant-loop-cur l =
    Way l.arcs.from.now l.arcs.to.now l.arcs.gap.now l.arcs.n l.y l.rank l.parent l.capacity l.d l.start l.initial.flow l.flow l.cur

abbrev pub decreases-loop-cur : goal.decreases-loop-cur
decreases-loop-cur l = at l.rank l.cur

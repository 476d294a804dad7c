use Rattle.relaxation.proofs.SweepLaws.{Sweeping}
use Rattle.relaxation.proofs.relax.sweep_edges.Given as goal

abbrev pub invariant-loop-a : goal.invariant-loop-a
invariant-loop-a l = Sweeping l.arcs.from.now l.arcs.to.now l.arcs.gap.now l.flow l.arcs.n l.initial.y l.y l.lifted l.a

use Rattle.graph.specs.Rows.{at}
use Rattle.relaxation.specs.Limits.{calm_limit}
use Rattle.relaxation.specs.Loans.{TreeKept, HintsKept}
use Rattle.augment.proofs.TreeLaws.{zeros}
use Rattle.augment.proofs.GrowLaws.{Growing}
use Rattle.augment.proofs.tree.grow_tree.Given as goal

abbrev pub invariant-loop-t : goal.invariant-loop-t
invariant-loop-t l =
    Growing l.arcs.from.now l.arcs.to.now l.arcs.gap.now l.flow l.arcs.n l.s (at l.initial.tree.capacity.now l.s) calm_limit l.demand l.initial.y l.y l.tree.rank.now l.tree.parent.now l.tree.capacity.now l.count l.t
    × TreeKept l.initial.tree l.tree × HintsKept l.initial.hints l.hints

abbrev pub decreases-loop-t : goal.decreases-loop-t
decreases-loop-t l = zeros l.tree.rank.now

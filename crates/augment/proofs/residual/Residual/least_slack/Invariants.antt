use Prim.Native.Nat.{◌<◌}
use Rattle.buffers.specs.Written.{word_limit}
use Rattle.augment.proofs.TreeLaws.{Least}
use Rattle.augment.proofs.residual.Residual.least_slack.Given as goal

abbrev pub invariant-loop-i : goal.invariant-loop-i
invariant-loop-i l =
    (l.best < word_limit) × Least l.self.arcs.from.now l.self.arcs.to.now l.self.arcs.gap.now l.self.flow.now l.self.y.now l.self.rank.now l.edge l.best l.i

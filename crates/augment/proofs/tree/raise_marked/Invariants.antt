use Rattle.augment.proofs.TreeLaws.{Raising}
use Rattle.augment.proofs.tree.raise_marked.Given as goal

abbrev pub invariant-loop-v : goal.invariant-loop-v
invariant-loop-v l = Raising l.n l.rank l.d l.initial.y l.y l.v

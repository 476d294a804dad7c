-- What is left to judge decides the whole.
use lib.ListN.{length}
use Rattle.flatten.specs.Flat.{flat_edges}
use Rattle.edgelist.proofs.JudgeLaws.{Judging}
use Rattle.edgelist.proofs.lent.judge_edges.Given as goal

abbrev pub invariant-loop-from : goal.invariant-loop-from
invariant-loop-from l = Judging l.n (flat_edges l.flat) (length l.yielded)

-- The flags of the first edges, and those that the definition gives the others, are all flags.
use mathlib.Core.Path.{◌≡◌}
use lib.ListN.{length}
use Rattle.orientation.proofs.JudgeLaws.{Judging}
use Rattle.orientation.proofs.judge.judge_edges.Given as goal

abbrev pub invariant-loop-e : goal.invariant-loop-e
invariant-loop-e l =
    (l.walks.n ≡ l.initial.walks.n) × (length l.turned.items ≡ l.e-index) × Judging l.initial.walks.n l.edges l.e-index l.walks.marks l.turned.items

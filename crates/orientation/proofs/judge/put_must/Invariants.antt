-- The matrix is that of the must edges among those that were taken, which are the last ones.
use mathlib.Core.Path.{◌≡◌}
use Prim.Native.Nat.{◌-◌}
use lib.ListN.{length, drop}
use Rattle.acyclic.specs.Oriented.{must_of}
use Rattle.closure.specs.Closure.{Closure}
use Rattle.orientation.proofs.judge.put_must.Given as goal

abbrev pub invariant-loop-e : goal.invariant-loop-e
invariant-loop-e l =
    (l.walks.n ≡ l.initial.walks.n) × Closure l.initial.walks.n (must_of (drop (length l.edges - length l.yielded) l.edges)) l.walks.marks

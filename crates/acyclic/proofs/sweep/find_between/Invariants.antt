-- All numbers before i fail.
use Prim.Native.Nat.{ℕ, ◌≤◌, ◌<◌}
use mathlib.Core.Bool.{false}
use Rattle.acyclic.proofs.sweep.find_between.Given as goal

abbrev pub invariant-loop-i : goal.invariant-loop-i
invariant-loop-i g l = (k : ℕ) → l.lo ≤ k → k < l.i → goal.F-post g l.test k false

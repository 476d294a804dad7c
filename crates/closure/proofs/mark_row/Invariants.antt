-- The first v marks are set, and the others are as they were.
use mathlib.Core.Path.{◌≡◌}
use mathlib.Core.Bool.{false, ◌||◌}
use Prim.Native.Nat.{ℕ, ◌≤◌, ◌<◌}
use lib.ListN.{get_or}
use Rattle.closure.proofs.mark_row.Given as goal

abbrev pub invariant-loop-v : goal.invariant-loop-v
invariant-loop-v l =
    ((k : ℕ) → k < l.v → get_or l.row k false ≡ get_or l.initial.row k false || get_or l.fresh k false)
    × ((k : ℕ) → l.v ≤ k → get_or l.row k false ≡ get_or l.initial.row k false)

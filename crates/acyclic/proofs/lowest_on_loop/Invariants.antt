-- Marks stay sound: whatever is marked is reached from s, and s is not marked. An open edge back to s closes a walk. Where no edge is
-- open, all that s reaches is marked, so s is not reached. Each turn of the inner loop marks a node more.
use mathlib.Core.List.{[]}
use mathlib.Core.Path.{◌≡◌}
use Prim.Native.Nat.{ℕ, ◌≤◌, ◌<◌}
use lib.ListN.{length}
use Rattle.acyclic.specs.Loops.{Walk}
use Rattle.relaxation.specs.Network.{edges_of}
use Rattle.acyclic.proofs.MarkLaws.{Sound}
use Rattle.acyclic.proofs.SetLaws.{unmarked}
use Rattle.acyclic.proofs.lowest_on_loop.Given as goal

abbrev pub invariant-loop-i : goal.invariant-loop-i
invariant-loop-i l = (length l.seen ≡ length l.initial.seen) × (l.start ≤ length l.arcs.from.now) × Sound l.arcs.from.now l.arcs.to.now l.s l.seen

abbrev pub decreases-loop-i : goal.decreases-loop-i
decreases-loop-i l = unmarked l.seen

abbrev pub invariant-loop-s : goal.invariant-loop-s
invariant-loop-s l =
    (length l.seen ≡ length l.initial.seen) × ((k : ℕ) → k < l.s-counter → Walk (edges_of l.arcs.from.now l.arcs.to.now [] []) k k → ⊥)

abbrev pub invariant-found : goal.invariant-found
invariant-found l = length l.seen ≡ length l.initial.seen

abbrev pub decreases-found : goal.decreases-found
decreases-found l = 0

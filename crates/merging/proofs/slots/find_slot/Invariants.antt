-- What has the key is on what is left of the chain.
use Prim.Native.Nat.{◌≤◌}
use lib.ListN.{length}
use Rattle.merging.proofs.ChainLaws.{Searching}
use Rattle.merging.proofs.slots.find_slot.Given as goal

abbrev pub invariant-loop-slot : goal.invariant-loop-slot
invariant-loop-slot l = (l.slot ≤ length l.next) × Searching l.keys l.next l.start l.key l.slot

abbrev pub decreases-loop-slot : goal.decreases-loop-slot
decreases-loop-slot l = l.slot

-- No row passes the cap, and each turn raises one, so the room below the cap shrinks.
use mathlib.Core.Path.{◌≡◌}
use Prim.Native.Nat.{◌≤◌}
use lib.ListN.{length}
use Rattle.acyclic.proofs.SettleLaws.{Capped}
use Rattle.acyclic.proofs.SetLaws.{room}
use Rattle.acyclic.proofs.settle.settle_rows.Given as goal

abbrev pub invariant-loop-i : goal.invariant-loop-i
invariant-loop-i l = (length l.y ≡ length l.initial.y) × (l.start ≤ length l.arcs.from.now) × Capped l.cap l.y

abbrev pub decreases-loop-i : goal.decreases-loop-i
decreases-loop-i l = room l.cap l.y

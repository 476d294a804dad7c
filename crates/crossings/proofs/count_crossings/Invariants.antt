-- The rows before row r − 2 are counted.
use Prim.Native.Nat.{◌≤◌, ◌-◌}
use lib.ListN.{length}
use Rattle.crossings.proofs.CountLaws as laws
use Rattle.crossings.proofs.count_crossings.Given as goal

abbrev pub invariant-loop-r : goal.invariant-loop-r
invariant-loop-r l = (l.r - 2 ≤ length l.rows.first.now - 2) × laws.Rowed l.rows.order.now l.rows.first.now l.side.head.now l.side.next.now l.side.far.now l.rows.pos.now l.sum (l.r - 2)

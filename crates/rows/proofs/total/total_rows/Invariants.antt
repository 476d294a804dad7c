-- What is summed, and the total of the edges that are left, is the whole total; each share is small, so that the sum fits.
use lib.ListN.{length}
use Rattle.rows.proofs.TotalLaws.{Summing}
use Rattle.rows.proofs.total.total_rows.Given as goal

abbrev pub invariant-loop-tail : goal.invariant-loop-tail
invariant-loop-tail l = Summing l.from l.to l.weight l.rows (length l.yielded) l.sum

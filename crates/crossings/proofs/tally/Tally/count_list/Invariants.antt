-- The sum so far and what is left of the list make the whole.
use Rattle.crossings.proofs.CountListLaws as laws
use Rattle.crossings.proofs.tally.Tally.count_list.Given as goal

abbrev pub invariant-loop-x : goal.invariant-loop-x
invariant-loop-x l = laws.CountingList l.self.counts.now l.ends.lower.now l.ends.pos.now l.ends.next.now l.h l.sum l.x

abbrev pub decreases-loop-x : goal.decreases-loop-x
decreases-loop-x l = l.x

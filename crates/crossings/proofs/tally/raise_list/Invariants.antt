-- What is counted in so far, with what is left of the list counted in, is the end.
use Rattle.crossings.proofs.RaiseLaws as laws
use Rattle.crossings.proofs.tally.raise_list.Given as goal

abbrev pub invariant-loop-x : goal.invariant-loop-x
invariant-loop-x l = laws.Raising l.ends.lower.now l.ends.pos.now l.ends.next.now l.h l.initial.counts l.initial.blocks l.counts l.blocks l.furthest l.x

abbrev pub decreases-loop-x : goal.decreases-loop-x
decreases-loop-x l = l.x

-- The costs so far and those with the segments that are left make the whole.
use Rattle.pairs.proofs.FillLaws as laws
use Rattle.pairs.proofs.fill.count_after.Given as goal

abbrev pub invariant-loop-other : goal.invariant-loop-other
invariant-loop-other l = laws.Counting l.segment l.after l.initial.costs l.costs l.other-index

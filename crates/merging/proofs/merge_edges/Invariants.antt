-- The first i edges are merged.
use Rattle.merging.proofs.MergingLaws.{Merging}
use Rattle.merging.proofs.merge_edges.Given as goal

abbrev pub invariant-loop-i : goal.invariant-loop-i
invariant-loop-i l = Merging l.edges l.i l.list.items l.keys.items l.next.items l.heads

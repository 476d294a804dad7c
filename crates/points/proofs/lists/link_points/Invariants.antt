-- The first k segments are in their lists.
use lib.ListN.{length}
use Rattle.points.proofs.LinkLaws as laws
use Rattle.points.proofs.lists.link_points.Given as goal

abbrev pub invariant-loop-k : goal.invariant-loop-k
invariant-loop-k l = laws.Linking l.near (length l.initial.head) l.head l.next l.k

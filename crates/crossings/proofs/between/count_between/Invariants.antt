-- The first points are counted and counted in; what they give and what the others will give make the whole.
use mathlib.Core.Path.{◌≡◌}
use lib.ListN.{length}
use Rattle.crossings.proofs.SweepLaws as laws
use Rattle.crossings.proofs.between.count_between.Given as goal

abbrev pub invariant-loop-p : goal.invariant-loop-p
invariant-loop-p l = (length l.blocks ≡ length l.initial.blocks)
    × laws.Sweeping l.ends.lower.now l.ends.pos.now l.ends.next.now l.head l.points (length l.initial.counts) l.counts l.blocks l.last l.sum l.p-index

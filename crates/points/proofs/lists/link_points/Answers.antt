use native.Mathlib.Omega.{arith}
use lib.ListN.{length}
use Rattle.points.proofs.LinkLaws as laws
use Rattle.points.proofs.lists.link_points.Goals as goal

pub loop-k-init : goal.loop-k-init
loop-k-init c = laws.linking-none (length c.args.head.now) (c.fill.ensures.after (λ y h. h)) c.requires.next_len

pub loop-k-preserved : goal.loop-k-preserved
loop-k-preserved c = let l = c.loop-k.invariant in
    laws.linking-more l c.loop-k-test.true (omega (arith, c.requires.below.below _ c.loop-k-test.true, l.kept))

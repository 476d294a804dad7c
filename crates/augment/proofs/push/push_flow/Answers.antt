use Rattle.augment.proofs.PushLaws as laws
use Rattle.augment.proofs.push.push_flow.Goals as goal

pub loop-cur-preserved : goal.loop-cur-preserved
loop-cur-preserved c =
    (laws.way_step _ _ _ _ _ _ _ _ _ _ _ _ c.args.arcs.now.shaped c.requires _ _ c.loop-cur.invariant c.loop-cur-test.true _ _
    c.step_back-cur.ensures).0

use Rattle.reordering.proofs.GatherLaws.{gathering_in, gathering-out, gathering-end}
use Rattle.reordering.proofs.gather_row.Goals as goal
use Rattle.reordering.proofs.gather_row.Goals.{then-row-p, else-row-p}

pub loop-p-preserved : goal.loop-p-preserved
loop-p-preserved g c =
    elim c.if-row-p.branch [
      | then-row-p w ↦ rw (w.points-is, w.push.ensures.items) (gathering_in _ _ _ _ _ c.loop-p.invariant c.loop-p-test.true w.if-row-p.true)
      | else-row-p w ↦ rw w.points-is (gathering-out _ _ _ _ _ c.loop-p.invariant c.loop-p-test.true w.if-row-p.false)
    ]

pub returns : goal.returns
returns g c = gathering-end _ _ _ _ _ c.loop-p.invariant c.loop-p-test.false

use Rattle.relaxation.proofs.SweepLaws as laws
use Rattle.relaxation.proofs.relax.relax_edge.Goals as goal

pub returns : goal.returns
returns c =
    let a = c.args in
    laws.eases a.arcs.now.from.now a.arcs.now.to.now a.arcs.now.gap.now a.flow.now a.y.now a.a _ _ _
    c.lift_tail-low.ensures c.max-high.ensures c.moved_any.ensures

use Rattle.relaxation.proofs.ArcLaws as laws
use Rattle.relaxation.proofs.arcs.link_edges.Goals as goal

pub loop-a-preserved : goal.loop-a-preserved
loop-a-preserved c = laws.linking-more _ _ _ _ c.loop-a.invariant _ c.loop-a-test.true c.link_edge.ensures

pub returns : goal.returns
returns c = laws.linking-ends _ _ _ _ c.loop-a.invariant c.loop-a-test.false

use Rattle.relaxation.proofs.SweepLaws as laws
use Rattle.relaxation.proofs.relax.sweep_edges.Goals as goal

pub loop-a-preserved : goal.loop-a-preserved
loop-a-preserved c =
    laws.sweeping-turn _ _ _ _ _ c.args.arcs.now.shaped c.requires.holder _ _ _ _ c.requires.n_in_bounds c.loop-a.invariant _ _
    c.loop-a-test.true c.relax_edge.ensures

pub relax_edge-requires-clause-sums : goal.relax_edge-requires-clause-sums
relax_edge-requires-clause-sums c =
    laws.sums-now _ _ _ _ _ c.args.arcs.now.shaped c.requires.holder _ _ _ _ c.requires.n_in_bounds c.loop-a.invariant

pub returns : goal.returns
returns c =
    laws.sweeping-ends _ _ _ _ _ c.args.arcs.now.shaped c.requires.holder _ _ _ _ c.requires.n_in_bounds c.loop-a.invariant
    c.loop-a-test.false

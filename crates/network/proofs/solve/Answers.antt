use Rattle.network.proofs.DriveLaws as laws
use Rattle.network.proofs.solve.Goals as goal

pub returns-clause-certified : goal.returns-clause-certified
returns-clause-certified c =
    let x = c.start_flow.ensures.started in
    laws.certify _ _ _ _ _ _ _ _ _ _ _ _ c.args.net.now.network.shape c.args.net.now.network.weight_long x.long x.rest
    c.drain_nodes.ensures.drained c.relax_above.ensures

use Rattle.relaxation.proofs.LowLaws.{lowered-of, zero-long}
use Rattle.start.proofs.rows.accept_rows.Goals as goal

pub returns-then-find_high : goal.returns-then-find_high
returns-then-find_high c =
    lowered-of _ _ _ _ _ _ _ c.requires.n_in_bounds c.args.net.now.arcs.shaped (zero-long c.args.net.now.arcs.from.now c.args.flow.now c.requires.flow_value)
    c.args.net.now.network.narrow c.relax_edges.ensures

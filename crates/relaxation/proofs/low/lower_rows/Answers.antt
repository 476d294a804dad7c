use Rattle.relaxation.proofs.LowLaws as laws
use Rattle.relaxation.proofs.low.lower_rows.Goals as goal

pub returns-then-find_high : goal.returns-then-find_high
returns-then-find_high c =
    laws.lowered-of _ _ _ _ _ _ _ c.requires.n_in_bounds c.args.arcs.now.shaped c.requires.flow_len c.requires.narrow c.relax_edges.ensures

use Rattle.relaxation.proofs.RelaxLaws as laws
use Rattle.relaxation.proofs.relax.relax_edges.Goals as goal

pub lift_rows-requires-clause-heights : goal.lift_rows-requires-clause-heights
lift_rows-requires-clause-heights c = laws.heights-cleared _ _ _ _ _ _ _ (laws.front-cleared _ _ _ c.requires.n_in_bounds (c.fill.ensures.after λ y e. e))

pub returns : goal.returns
returns c = laws.relaxed-front _ _ _ c.requires.n_in_bounds _ _ _ _ _ c.fill.ensures.len c.lift_rows.ensures

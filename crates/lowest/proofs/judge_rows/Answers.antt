use Rattle.std.proofs.lemmas.Bool.{not-true}
use Rattle.lowest.proofs.LowestLaws.{rows-lowest}
use Rattle.lowest.proofs.judge_rows.Goals as goal

pub returns : goal.returns
returns c =
    λ e. rows-lowest _ _ _ _ _ _ c.args.arcs.now.shaped c.prop_nodes.ensures
    (rw c.prop_nodes.ensures.long at (c.find_loose.ensures (not-true _ e))) (c.find_short.ensures c.if-find_short.false)

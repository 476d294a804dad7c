use Rattle.augment.proofs.PushLaws.{planted}
use Rattle.augment.proofs.tree.plant_root.Goals as goal

pub returns-clause-planted : goal.returns-clause-planted
returns-clause-planted c =
    rw (c.fill.ensures.after (λ y e. e), c.requires.rank_len) (planted _ _ _ _ c.requires.capacity_len c.requires.s_lt_n)

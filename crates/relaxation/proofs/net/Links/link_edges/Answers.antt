use Rattle.relaxation.proofs.ArcLaws as laws
use Rattle.relaxation.proofs.net.Links.link_edges.Goals as goal

pub returns-clause-linked : goal.returns-clause-linked
returns-clause-linked c = laws.linking-cleared _ _ (c.fill.ensures.after λ y e. e) c.link_edges.ensures

-- A walk from a to b is known, or every row is extended by what is onward from b.
use Rattle.closure.proofs.ClosureLaws.{added-known, added_new}
use Rattle.closure.proofs.Walks.add_edge.Goals as goal

pub returns-then-leads-clause-added : goal.returns-then-leads-clause-added
returns-then-leads-clause-added c = added-known _ _ _ _ c.requires.0 c.requires.1 cc

pub returns-clause-added : goal.returns-clause-added
returns-clause-added c = added_new _ _ _ _ c.requires.0 c.requires.1 c.onward_from-fresh.ensures c.extend_rows.ensures.extended

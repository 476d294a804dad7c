-- No edges, no walks.
use Rattle.closure.proofs.ClosureLaws.{closure-none}
use Rattle.closure.proofs.Walks.none.Goals as goal

pub returns-clause-closure : goal.returns-clause-closure
returns-clause-closure c = closure-none c.args.n 9216

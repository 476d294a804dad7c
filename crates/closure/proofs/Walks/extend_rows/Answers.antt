use native.Mathlib.Omega.{arith}
use Rattle.closure.proofs.ClosureLaws.{rows_more}
use Rattle.closure.proofs.Walks.extend_rows.Goals as goal

pub loop-u-preserved : goal.loop-u-preserved
loop-u-preserved c = (cc, rows_more (omega arith) c.loop-u.invariant.1 (rw c.loop-u.invariant.0 at c.extend_row.ensures.extended))

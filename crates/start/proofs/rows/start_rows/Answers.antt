use native.Mathlib.Omega.{arith}
use Rattle.start.proofs.StartLaws.{lowered-join, lowest-heights}
use Rattle.start.proofs.rows.start_rows.Goals as goal

pub returns-clause-rows : goal.returns-clause-rows
returns-clause-rows c =
    let x = c.lowest_rows.ensures in
    record {
      lowered = lowered-join _ _ _ _ _ _ _ _ _ x (omega arith) c.sink_nodes.ensures c.accept_rows.ensures;
      heights = lowest-heights _ _ _ _ _ _ _ _ c.requires.flow_value x c.copy_all.ensures;
      lowest_long = (omega arith);
    }

use mathlib.Core.Path.{sym, ◌∙◌}
use native.Mathlib.Omega.{arith}
use Rattle.flatten.proofs.FlattenLaws.{copy-room, copy-all, copied-few, copied-none}
use Rattle.flatten.proofs.records.flatten_records.Goals as goal

pub push-requires : goal.push-requires
push-requires c = (omega arith, copy-room c.args.records.now _ _ c.loop-e.invariant (omega arith) (omega arith))

pub returns-after-loop-e : goal.returns-after-loop-e
returns-after-loop-e c = copy-all c.args.records.now _ _ c.loop-e.invariant (omega arith) ∙ sym (copied-few c.args.records.now (omega arith))

pub returns-else-records-le-MAX_EDGES : goal.returns-else-records-le-MAX_EDGES
returns-else-records-le-MAX_EDGES c = c.new-flat.ensures ∙ sym (copied-none c.args.records.now (omega arith))

use mathlib.Core.Path.{sym, ◌∙◌}
use native.Mathlib.Omega.{arith}
use Rattle.flatten.specs.Records.{records_of}
use Rattle.flatten.proofs.FlattenLaws.{copy-room, copy_more, copy-all, copied-few, copied-none}
use Rattle.flatten.proofs.NumberLaws.{records-length}
use Rattle.flatten.proofs.numbers.flatten_numbers.Goals as goal

pub edge_at-requires : goal.edge_at-requires
edge_at-requires c = omega (arith, records-length c.args.numbers.now)

pub push-requires : goal.push-requires
push-requires c =
    let count = records-length c.args.numbers.now in (omega arith, copy-room (records_of c.args.numbers.now) _ _ c.loop-i.invariant (omega (arith, count)) (omega (arith, count)))

pub loop-i-preserved : goal.loop-i-preserved
loop-i-preserved c =
    copy_more (records_of c.args.numbers.now) _ _ c.loop-i.invariant c.edge_at.result _ (omega (arith, records-length c.args.numbers.now)) c.edge_at.ensures c.push.ensures

pub returns-after-loop-i : goal.returns-after-loop-i
returns-after-loop-i c =
    let count = records-length c.args.numbers.now in
    copy-all (records_of c.args.numbers.now) _ _ c.loop-i.invariant (omega (arith, count)) ∙ sym (copied-few (records_of c.args.numbers.now) (omega (arith, count)))

pub returns-else-count-le-MAX_EDGES : goal.returns-else-count-le-MAX_EDGES
returns-else-count-le-MAX_EDGES c = c.new-flat.ensures ∙ sym (copied-none (records_of c.args.numbers.now) (omega (arith, records-length c.args.numbers.now)))

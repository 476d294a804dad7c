-- Each turn reads a line and lays its costs.
use native.Mathlib.Omega.{arith}
use Rattle.std.proofs.lemmas.Iterator.{YieldsList-from_slice, YieldsList-from_zip}
use Rattle.std.proofs.lemmas.Iterator.Consumers.{YieldsList-turn, YieldsList-end}
use Rattle.std.proofs.lemmas.List.{length_push}
use Rattle.buffers.proofs.ZipLaws.{triples, triple-at}
use Rattle.relaxation.proofs.EdgesLaws.{length-edges_of}
use Rattle.flatten.specs.Flat.{flat_edges}
use Rattle.coordinates.specs.Costing.{costs_from}
use Rattle.coordinates.proofs.LayLaws.{turn-room, turn-more, costs-all}
use Rattle.coordinates.proofs.cost.lay_costs.Goals as goal

pub loop-tail-init : goal.loop-tail-init
unfolding costs_from
loop-tail-init c = c.new-costs.ensures

pub cost_line-requires-clause-room : goal.cost_line-requires-clause-room
cost_line-requires-clause-room c =
    let f = c.args.ends.now in
    let t = YieldsList-turn (YieldsList-from_zip (YieldsList-from_zip (YieldsList-from_slice f.from.items cc) (YieldsList-from_slice f.to.items cc)) (YieldsList-from_slice f.weight.items cc))
    c.loop-tail.yielded _ c.loop-tail.yielded_by _ c.next.new.self _ c.in-Some.is c.next.ensures.steps in
    let e = triple-at _ _ _ f.even.to_long f.even.weight_long _ _ _ _ t in
    omega (arith, turn-room c.args.rows.now f _ e c.count_between-k.ensures c.loop-tail.invariant, c.requires.room)

pub loop-tail-preserved : goal.loop-tail-preserved
loop-tail-preserved c =
    let f = c.args.ends.now in
    let t = YieldsList-turn (YieldsList-from_zip (YieldsList-from_zip (YieldsList-from_slice f.from.items cc) (YieldsList-from_slice f.to.items cc)) (YieldsList-from_slice f.weight.items cc))
    c.loop-tail.yielded _ c.loop-tail.yielded_by _ c.next.new.self _ c.in-Some.is c.next.ensures.steps in
    let e = triple-at _ _ _ f.even.to_long f.even.weight_long _ _ _ _ t in
    rw (length_push c.loop-tail.yielded _) (turn-more c.args.rows.now f _ e c.count_between-k.ensures c.loop-tail.invariant c.cost_line.ensures)

pub returns : goal.returns
returns c =
    let f = c.args.ends.now in
    let t = YieldsList-end (YieldsList-from_zip (YieldsList-from_zip (YieldsList-from_slice f.from.items cc) (YieldsList-from_slice f.to.items cc)) (YieldsList-from_slice f.weight.items cc))
    c.loop-tail.yielded _ c.loop-tail.yielded_by _ c.next.new.self c.in-None.is c.next.ensures.steps in
    costs-all c.args.rows.now (flat_edges f)
    (omega (arith, t.1, triples _ _ _ f.even.to_long f.even.weight_long, length-edges_of f.from.items f.to.items f.gap.items f.weight.items)) c.loop-tail.invariant

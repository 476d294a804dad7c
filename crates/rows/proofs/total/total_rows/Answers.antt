-- Each turn reads an edge's ends and its weight, and adds the edge's share, which is small.
use native.Mathlib.Omega.{arith}
use Rattle.std.proofs.lemmas.Iterator.{YieldsList-from_slice, YieldsList-from_zip}
use Rattle.std.proofs.lemmas.Iterator.Consumers.{YieldsList-turn, YieldsList-end}
use Rattle.std.proofs.lemmas.List.{length_push}
use Rattle.buffers.proofs.ZipLaws.{triples}
use Rattle.rows.proofs.TotalLaws.{summing-turn, summing-all}
use Rattle.rows.proofs.total.total_rows.Goals as goal

pub overflow_mul-sum : goal.overflow_mul-sum
overflow_mul-sum c =
    let t = YieldsList-turn (YieldsList-from_zip (YieldsList-from_zip (YieldsList-from_slice c.args.from.now cc) (YieldsList-from_slice c.args.to.now cc)) (YieldsList-from_slice c.args.weight.now cc))
    c.loop-tail.yielded _ c.loop-tail.yielded_by _ c.next.new.self _ c.in-Some.is c.next.ensures.steps in
    omega (arith, (summing-turn _ _ _ _ c.requires _ _ _ _ _ t c.loop-tail.invariant).0)

pub overflow_add-sum : goal.overflow_add-sum
overflow_add-sum c =
    let t = YieldsList-turn (YieldsList-from_zip (YieldsList-from_zip (YieldsList-from_slice c.args.from.now cc) (YieldsList-from_slice c.args.to.now cc)) (YieldsList-from_slice c.args.weight.now cc))
    c.loop-tail.yielded _ c.loop-tail.yielded_by _ c.next.new.self _ c.in-Some.is c.next.ensures.steps in
    let m = (summing-turn _ _ _ _ c.requires _ _ _ _ _ t c.loop-tail.invariant).1 in
    omega (arith, m.small, m.some, c.requires.few)

pub loop-tail-preserved : goal.loop-tail-preserved
loop-tail-preserved c =
    let t = YieldsList-turn (YieldsList-from_zip (YieldsList-from_zip (YieldsList-from_slice c.args.from.now cc) (YieldsList-from_slice c.args.to.now cc)) (YieldsList-from_slice c.args.weight.now cc))
    c.loop-tail.yielded _ c.loop-tail.yielded_by _ c.next.new.self _ c.in-Some.is c.next.ensures.steps in
    rw (length_push c.loop-tail.yielded _) (summing-turn _ _ _ _ c.requires _ _ _ _ _ t c.loop-tail.invariant).1

pub returns : goal.returns
returns c =
    let t = YieldsList-end (YieldsList-from_zip (YieldsList-from_zip (YieldsList-from_slice c.args.from.now cc) (YieldsList-from_slice c.args.to.now cc)) (YieldsList-from_slice c.args.weight.now cc))
    c.loop-tail.yielded _ c.loop-tail.yielded_by _ c.next.new.self c.in-None.is c.next.ensures.steps in
    summing-all _ _ _ _ _ _ (omega (arith, t.1, triples _ _ _ c.requires.ends.to_long c.requires.weight_long)) c.loop-tail.invariant

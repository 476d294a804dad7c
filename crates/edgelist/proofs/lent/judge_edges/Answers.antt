-- Each turn judges the edge that stands there.
use mathlib.Core.Path.{ap}
use lib.ListN.{length}
use Rattle.relaxation.proofs.EdgesLaws.{length-edges_of}
use native.Mathlib.Omega.{arith}
use Rattle.std.proofs.lemmas.Iterator.{YieldsList-from_slice, YieldsList-from_zip}
use Rattle.std.proofs.lemmas.Iterator.Consumers.{YieldsList-turn, YieldsList-end}
use Rattle.std.proofs.lemmas.Result.{err_from_is_err_and}
use Rattle.std.proofs.lemmas.List.{length_push}
use Rattle.edgelist.proofs.JudgeLaws.{judging-fault, judging-more, judging-all, side-edge, flat-sides}
use Rattle.edgelist.proofs.lent.judge_edges.Goals as goal

pub loop-from-preserved : goal.loop-from-preserved
loop-from-preserved c =
    let f = c.args.flat.now in
    let t = YieldsList-turn (YieldsList-from_zip (YieldsList-from_zip (YieldsList-from_slice f.from.items cc) (YieldsList-from_slice f.to.items cc)) (YieldsList-from_zip (YieldsList-from_slice f.gap.items cc) (YieldsList-from_slice f.weight.items cc)))
    c.loop-from.yielded _ c.loop-from.yielded_by _ c.next.new.self _ c.in-Some.is c.next.ensures.steps in
    let e = side-edge f _ _ _ _ _ t in
    rw (length_push c.loop-from.yielded _) (judging-more c.loop-from.invariant e.0 (rw e.1 at c.in_ok-judge_edge.ensures))

pub returns-in_err-judge_edge-clause-judged : goal.returns-in_err-judge_edge-clause-judged
returns-in_err-judge_edge-clause-judged c =
    let f = c.args.flat.now in
    let t = YieldsList-turn (YieldsList-from_zip (YieldsList-from_zip (YieldsList-from_slice f.from.items cc) (YieldsList-from_slice f.to.items cc)) (YieldsList-from_zip (YieldsList-from_slice f.gap.items cc) (YieldsList-from_slice f.weight.items cc)))
    c.loop-from.yielded _ c.loop-from.yielded_by _ c.next.new.self _ c.in-Some.is c.next.ensures.steps in
    let e = side-edge f _ _ _ _ _ t in
    let p = err_from_is_err_and c.from_residual.result c.from_residual.ensures.1 in
    rw (p.1, p.2) (judging-fault c.loop-from.invariant e.0 (rw e.1 at c.in_err-judge_edge.ensures))

pub returns-clause-judged : goal.returns-clause-judged
returns-clause-judged c =
    let f = c.args.flat.now in
    let t = YieldsList-end (YieldsList-from_zip (YieldsList-from_zip (YieldsList-from_slice f.from.items cc) (YieldsList-from_slice f.to.items cc)) (YieldsList-from_zip (YieldsList-from_slice f.gap.items cc) (YieldsList-from_slice f.weight.items cc)))
    c.loop-from.yielded _ c.loop-from.yielded_by _ c.next.new.self c.in-None.is c.next.ensures.steps in
    judging-all c.loop-from.invariant (omega (arith, t.1, flat-sides f))

pub returns-in_err-judge_edge-clause-few : goal.returns-in_err-judge_edge-clause-few
returns-in_err-judge_edge-clause-few c =
    let f = c.args.flat.now in
    omega (arith, c.deref.ensures.1, ap length c.deref.ensures.0, length-edges_of f.from.items f.to.items f.gap.items f.weight.items)

pub returns-clause-few : goal.returns-clause-few
returns-clause-few c =
    let f = c.args.flat.now in
    omega (arith, c.deref.ensures.1, ap length c.deref.ensures.0, length-edges_of f.from.items f.to.items f.gap.items f.weight.items)

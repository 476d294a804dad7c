-- The four ends of the call: refused as the chart is, too many points, a short buffer, and the best x.
use native.Mathlib.Omega.{arith}
use Rattle.std.proofs.lemmas.Result.{err_from_is_err_and}
use Rattle.ordering.proofs.OpenedLaws.{opened, found-refused, opened-mergeable, opened-long}
use Rattle.coordinates.proofs.CallLaws.{ended-refused, ended-large, ended-short, ended-spaced, lined}
use Rattle.coordinates.proofs.find_xs.Goals as goal

pub returns-in_err-charted : goal.returns-in_err-charted
returns-in_err-charted c =
    let p = err_from_is_err_and c.from_residual.result c.from_residual.ensures.1 in
    let h = ended-refused _ c.args.xs.now (found-refused _ c.in_err-charted.ensures.table_found) in
    rw (p.1, p.2) (record { result_value = h.0; xs_after = h.1.0; xs_best = h.1.1 })

pub returns-then-points-gt-MAX_XS : goal.returns-then-points-gt-MAX_XS
returns-then-points-gt-MAX_XS c =
    let o = opened _ {r = c.in_ok-charted.charted} c.in_ok-charted.ensures.result_value c.in_ok-charted.ensures.table_found in
    let h = ended-large o c.args.xs.now (omega (arith, c.if-points-gt-MAX_XS.true, c.len-points.ensures.value)) in
    record { result_value = h.0; xs_after = h.1.0; xs_best = h.1.1 }

pub returns-then-xs-points : goal.returns-then-xs-points
returns-then-xs-points c =
    let o = opened _ {r = c.in_ok-charted.charted} c.in_ok-charted.ensures.result_value c.in_ok-charted.ensures.table_found in
    let n = c.len-points.ensures.value in
    let h = ended-short o c.args.xs.now (omega (arith, n)) (omega (arith, c.if-xs-points.true, n)) in
    record { result_value = h.0; xs_after = h.1.0; xs_best = h.1.1 }

pub merge_ends-ends-requires-clause-mergeable : goal.merge_ends-ends-requires-clause-mergeable
merge_ends-ends-requires-clause-mergeable c =
    let o = opened _ {r = c.in_ok-charted.charted} c.in_ok-charted.ensures.result_value c.in_ok-charted.ensures.table_found in
    rw c.deref.ensures.0 (opened-mergeable o)

pub merge_ends-ends-requires-clause-turned_len : goal.merge_ends-ends-requires-clause-turned_len
merge_ends-ends-requires-clause-turned_len c =
    let o = opened _ {r = c.in_ok-charted.charted} c.in_ok-charted.ensures.result_value c.in_ok-charted.ensures.table_found in
    rw (c.deref.ensures.0, c.deref-2.ensures.0) (opened-long o)

pub space_lines-best-requires : goal.space_lines-best-requires
space_lines-best-requires c =
    let o = opened _ {r = c.in_ok-charted.charted} c.in_ok-charted.ensures.result_value c.in_ok-charted.ensures.table_found in
    rw (c.deref-3.ensures.0, c.deref-4.ensures.0)
    (lined o c.args.xs.now (omega (arith, c.len-points.ensures.value)) _ (rw (c.deref.ensures.0, c.deref-2.ensures.0) at c.merge_ends-ends.ensures))

pub returns : goal.returns
returns c =
    let o = opened _ {r = c.in_ok-charted.charted} c.in_ok-charted.ensures.result_value c.in_ok-charted.ensures.table_found in
    let n = c.len-points.ensures.value in
    let h = ended-spaced o c.args.xs.now (omega (arith, n)) c.merge_ends-ends.result (rw (c.deref.ensures.0, c.deref-2.ensures.0) at c.merge_ends-ends.ensures)
    (omega (arith, n)) _ (rw (c.deref-3.ensures.0, c.deref-4.ensures.0) at c.space_lines-best.ensures) _ (rw n at c.store_u16.ensures) in
    rw n (record { result_value = h.0; xs_after = h.1.0; xs_best = h.1.1 })

-- The ends of the call: refused as the chart is, row 0, a row that is not there, and what the search in the row ends with.
use native.Mathlib.Omega.{arith}
use Rattle.std.proofs.Common.{rules}
use Rattle.ordering.proofs.OpenedLaws.{opened, opened-mergeable, opened-long}
use Rattle.rearranging.proofs.CallLaws.{ended-refused, ended-none, arrangeable, ended-row}
use Rattle.rearranging.proofs.find_order.Goals as goal

pub returns-in_err-charted-clause-result_value : goal.returns-in_err-charted-clause-result_value
returns-in_err-charted-clause-result_value c =
    search (rules, (ended-refused c.args.bytes.now c.args.row c.args.tries c.args.order.now c.in_err-charted.field-0.0.refusal c.in_err-charted.ensures.table_found).numbers)

pub returns-in_err-charted-clause-order_after : goal.returns-in_err-charted-clause-order_after
returns-in_err-charted-clause-order_after c =
    (ended-refused c.args.bytes.now c.args.row c.args.tries c.args.order.now c.in_err-charted.field-0.0.refusal c.in_err-charted.ensures.table_found).order

pub returns-then-row-eq0-clause-result_value : goal.returns-then-row-eq0-clause-result_value
returns-then-row-eq0-clause-result_value c =
    (ended-none c.args.bytes.now c.args.row c.args.tries c.args.order.now (opened c.args.bytes.now c.in_ok-charted.ensures.result_value c.in_ok-charted.ensures.table_found) c.then-row-eq0.either).numbers

pub returns-then-row-eq0-clause-order_after : goal.returns-then-row-eq0-clause-order_after
returns-then-row-eq0-clause-order_after c =
    (ended-none c.args.bytes.now c.args.row c.args.tries c.args.order.now (opened c.args.bytes.now c.in_ok-charted.ensures.result_value c.in_ok-charted.ensures.table_found) c.then-row-eq0.either).order

pub merge_ends-ends-requires-clause-mergeable : goal.merge_ends-ends-requires-clause-mergeable
merge_ends-ends-requires-clause-mergeable c =
    rw c.deref.ensures.0 (opened-mergeable (opened c.args.bytes.now c.in_ok-charted.ensures.result_value c.in_ok-charted.ensures.table_found))

pub merge_ends-ends-requires-clause-turned_len : goal.merge_ends-ends-requires-clause-turned_len
merge_ends-ends-requires-clause-turned_len c =
    rw (c.deref.ensures.0, c.deref-2.ensures.0) (opened-long (opened c.args.bytes.now c.in_ok-charted.ensures.result_value c.in_ok-charted.ensures.table_found))

pub invariant_of-layout : goal.invariant_of-layout
invariant_of-layout c =
    rw (c.deref-3.ensures.0, c.deref-4.ensures.0, c.deref-5.ensures.0)
    (record {
      chart = (arrangeable c.args.bytes.now c.args.row c.args.tries c.args.order.now (opened c.args.bytes.now c.in_ok-charted.ensures.result_value c.in_ok-charted.ensures.table_found) (omega (arith, c.if-row-eq0.false)) (omega (arith, c.if-charted-row.false)) c.merge_ends-ends.result
          (rw (c.deref.ensures.0, c.deref-2.ensures.0) at c.merge_ends-ends.ensures)).chart;
    })

pub arrange_row-requires : goal.arrange_row-requires
arrange_row-requires c =
    rw (c.deref-3.ensures.0, c.deref-4.ensures.0, c.deref-5.ensures.0, c.deref-6.ensures.0)
    (arrangeable c.args.bytes.now c.args.row c.args.tries c.args.order.now (opened c.args.bytes.now c.in_ok-charted.ensures.result_value c.in_ok-charted.ensures.table_found) (omega (arith, c.if-row-eq0.false)) (omega (arith, c.if-charted-row.false)) c.merge_ends-ends.result
    (rw (c.deref.ensures.0, c.deref-2.ensures.0) at c.merge_ends-ends.ensures))

pub returns-clause-result_value : goal.returns-clause-result_value
returns-clause-result_value c =
    (ended-row c.args.bytes.now c.args.row c.args.tries c.args.order.now (opened c.args.bytes.now c.in_ok-charted.ensures.result_value c.in_ok-charted.ensures.table_found) (omega (arith, c.if-row-eq0.false)) (omega (arith, c.if-charted-row.false)) c.merge_ends-ends.result
    (rw (c.deref.ensures.0, c.deref-2.ensures.0) at c.merge_ends-ends.ensures) _ _
    (rw (c.deref-3.ensures.0, c.deref-4.ensures.0, c.deref-5.ensures.0) at c.arrange_row.ensures)).numbers

pub returns-clause-order_after : goal.returns-clause-order_after
returns-clause-order_after c =
    (ended-row c.args.bytes.now c.args.row c.args.tries c.args.order.now (opened c.args.bytes.now c.in_ok-charted.ensures.result_value c.in_ok-charted.ensures.table_found) (omega (arith, c.if-row-eq0.false)) (omega (arith, c.if-charted-row.false)) c.merge_ends-ends.result
    (rw (c.deref.ensures.0, c.deref-2.ensures.0) at c.merge_ends-ends.ensures) _ _
    (rw (c.deref-3.ensures.0, c.deref-4.ensures.0, c.deref-5.ensures.0) at c.arrange_row.ensures)).order

pub returns-clause-order_shown : goal.returns-clause-order_shown
returns-clause-order_shown c =
    (ended-row c.args.bytes.now c.args.row c.args.tries c.args.order.now (opened c.args.bytes.now c.in_ok-charted.ensures.result_value c.in_ok-charted.ensures.table_found) (omega (arith, c.if-row-eq0.false)) (omega (arith, c.if-charted-row.false)) c.merge_ends-ends.result
    (rw (c.deref.ensures.0, c.deref-2.ensures.0) at c.merge_ends-ends.ensures) _ _
    (rw (c.deref-3.ensures.0, c.deref-4.ensures.0, c.deref-5.ensures.0) at c.arrange_row.ensures)).shown

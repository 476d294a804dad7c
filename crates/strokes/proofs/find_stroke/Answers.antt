-- The ends of the call: refused as the chart is, too many points, no stroke at the index, and a stroke.
use mathlib.Core.List.{[]}
use native.Mathlib.Omega.{arith}
use Rattle.std.proofs.Common.{rules}
use Rattle.ordering.proofs.OpenedLaws.{opened, opened-mergeable, opened-long}
use Rattle.coordinates.proofs.CallLaws.{lined}
use Rattle.strokes.proofs.CallLaws.{ended-refused, ended-large, routable, ended-nothing, point-in, ended_at}
use Rattle.strokes.proofs.find_stroke.Goals as goal

pub returns-in_err-table-clause-value : goal.returns-in_err-table-clause-value
returns-in_err-table-clause-value c =
    search (rules, (ended-refused c.args.bytes.now c.args.index c.in_err-table.field-0.0.refusal c.in_err-table.ensures.table_found).value)

pub returns-then-len-gt-MAX_XS-clause-value : goal.returns-then-len-gt-MAX_XS-clause-value
returns-then-len-gt-MAX_XS-clause-value c =
    (ended-large c.args.bytes.now c.args.index (opened c.args.bytes.now c.in_ok-table.ensures.result_value c.in_ok-table.ensures.table_found) (omega arith)).value

pub merge_edges-lines-requires : goal.merge_edges-lines-requires
merge_edges-lines-requires c =
    rw c.deref.ensures.0 (opened-mergeable (opened c.args.bytes.now c.in_ok-table.ensures.result_value c.in_ok-table.ensures.table_found))

pub find_visit-requires : goal.find_visit-requires
find_visit-requires c =
    rw (c.deref-2.ensures.0, c.deref-3.ensures.0, c.deref-4.ensures.0)
    (routable c.args.bytes.now c.args.index (opened c.args.bytes.now c.in_ok-table.ensures.result_value c.in_ok-table.ensures.table_found) (omega arith) _ (rw c.deref.ensures.0 at c.merge_edges-lines.ensures))

pub returns-in_default-clause-value : goal.returns-in_default-clause-value
returns-in_default-clause-value c =
    (ended-nothing c.args.bytes.now c.args.index (opened c.args.bytes.now c.in_ok-table.ensures.result_value c.in_ok-table.ensures.table_found) (omega arith) _ (rw c.deref.ensures.0 at c.merge_edges-lines.ensures)
    (rw (c.deref-2.ensures.0, c.deref-3.ensures.0, c.deref-4.ensures.0) at c.in_default.ensures)).value

pub merge_ends-ends-requires-clause-mergeable : goal.merge_ends-ends-requires-clause-mergeable
merge_ends-ends-requires-clause-mergeable c =
    rw c.deref-5.ensures.0 (opened-mergeable (opened c.args.bytes.now c.in_ok-table.ensures.result_value c.in_ok-table.ensures.table_found))

pub merge_ends-ends-requires-clause-turned_len : goal.merge_ends-ends-requires-clause-turned_len
merge_ends-ends-requires-clause-turned_len c =
    rw (c.deref-5.ensures.0, c.deref-6.ensures.0) (opened-long (opened c.args.bytes.now c.in_ok-table.ensures.result_value c.in_ok-table.ensures.table_found))

pub place_stroke-stroke-requires-clause-lined : goal.place_stroke-stroke-requires-clause-lined
place_stroke-stroke-requires-clause-lined c =
    rw (c.deref-7.ensures.0, c.deref-8.ensures.0) (lined (opened c.args.bytes.now c.in_ok-table.ensures.result_value c.in_ok-table.ensures.table_found) [] (omega arith) c.merge_ends-ends.result (rw (c.deref-5.ensures.0, c.deref-6.ensures.0) at c.merge_ends-ends.ensures))

pub place_stroke-stroke-requires-clause-point_in_bounds : goal.place_stroke-stroke-requires-clause-point_in_bounds
place_stroke-stroke-requires-clause-point_in_bounds c =
    rw c.deref-8.ensures.0 (point-in c.args.bytes.now c.args.index (opened c.args.bytes.now c.in_ok-table.ensures.result_value c.in_ok-table.ensures.table_found) (omega arith) _ (rw c.deref.ensures.0 at c.merge_edges-lines.ensures) c.in-Some.visit (rw (c.deref-2.ensures.0, c.deref-3.ensures.0, c.deref-4.ensures.0) at c.in-Some.ensures))

pub returns-clause-value : goal.returns-clause-value
returns-clause-value c =
    (ended_at c.args.bytes.now c.args.index (opened c.args.bytes.now c.in_ok-table.ensures.result_value c.in_ok-table.ensures.table_found) (omega arith) _ (rw c.deref.ensures.0 at c.merge_edges-lines.ensures) c.in-Some.visit
    (rw (c.deref-2.ensures.0, c.deref-3.ensures.0, c.deref-4.ensures.0) at c.in-Some.ensures) c.merge_ends-ends.result (rw (c.deref-5.ensures.0, c.deref-6.ensures.0) at c.merge_ends-ends.ensures) _
    (rw c.deref-7.ensures.0 at c.place_stroke-stroke.ensures)).value

pub returns-clause-answer_exact : goal.returns-clause-answer_exact
returns-clause-answer_exact c =
    (ended_at c.args.bytes.now c.args.index (opened c.args.bytes.now c.in_ok-table.ensures.result_value c.in_ok-table.ensures.table_found) (omega arith) _ (rw c.deref.ensures.0 at c.merge_edges-lines.ensures) c.in-Some.visit
    (rw (c.deref-2.ensures.0, c.deref-3.ensures.0, c.deref-4.ensures.0) at c.in-Some.ensures) c.merge_ends-ends.result (rw (c.deref-5.ensures.0, c.deref-6.ensures.0) at c.merge_ends-ends.ensures) _
    (rw c.deref-7.ensures.0 at c.place_stroke-stroke.ensures)).exact

-- The ends of the edges make a chart of their best rows, and what is drawn of the ends is the chart of the edges.
use mathlib.Core.Path.{refl, ap, ◌∙◌}
use lib.ListN.{take}
use Rattle.merging.proofs.EndsLaws.{drawn-ends}
use Rattle.ordering.proofs.SplitLaws.{flat-tails, flat-heads}
use Rattle.ordering.proofs.DrawnLaws.{mergeable}
use Rattle.ordering.proofs.ChartLaws.{sizable, drawable, found-many, found-drawn}
use Rattle.ordering.proofs.chart.draw_edges.Goals as goal

pub merge_ends-ends-requires-clause-mergeable : goal.merge_ends-ends-requires-clause-mergeable
merge_ends-ends-requires-clause-mergeable c = mergeable _ _ _ c.requires.rows_given.fair

pub invariant_of-layout : goal.invariant_of-layout
invariant_of-layout c =
    let f = c.merge_ends-ends.result in
    let e = c.merge_ends-ends.ensures in
    rw (c.deref.ensures.0, c.deref-2.ensures.0, c.deref-3.ensures.0)
    (record { chart = (sizable _ c.args.found c.requires.rows_given _ (drawn-ends _ _) _ _ (flat-tails f e) (flat-heads f e)).chart })

pub returns-then-points-gt-MAX_POINTS : goal.returns-then-points-gt-MAX_POINTS
returns-then-points-gt-MAX_POINTS c =
    let f = c.merge_ends-ends.result in
    let e = c.merge_ends-ends.ensures in
    found-many _ c.args.found c.requires.rows_given _ (drawn-ends _ _) _ _ (flat-tails f e) (flat-heads f e) _
    (rw (c.deref.ensures.0, c.deref-2.ensures.0, c.deref-3.ensures.0) at c.count_points-points.ensures) c.if-points-gt-MAX_POINTS.true

pub draw_points-crossings-requires-clause-drawable : goal.draw_points-crossings-requires-clause-drawable
draw_points-crossings-requires-clause-drawable c =
    let f = c.merge_ends-ends.result in
    let e = c.merge_ends-ends.ensures in
    rw (c.deref.ensures.0, c.deref-2.ensures.0, c.deref-3.ensures.0)
    (drawable _ c.args.found c.requires.rows_given _ (drawn-ends _ _) _ _ (flat-tails f e) (flat-heads f e) _
    (rw (c.deref.ensures.0, c.deref-2.ensures.0, c.deref-3.ensures.0) at c.count_points-points.ensures) c.if-points-gt-MAX_POINTS.false)

pub returns : goal.returns
returns c =
    let f = c.merge_ends-ends.result in
    let e = c.merge_ends-ends.ensures in
    found-drawn _ c.args.found c.requires.rows_given _ (drawn-ends _ _) _ _ (flat-tails f e) (flat-heads f e) _
    (rw (c.deref.ensures.0, c.deref-2.ensures.0, c.deref-3.ensures.0) at c.count_points-points.ensures) _ refl (rw c.deref.ensures.0 at c.count_rows-height.ensures) refl
    c.if-points-gt-MAX_POINTS.false (rw (c.deref.ensures.0, c.deref-2.ensures.0, c.deref-3.ensures.0) at c.draw_points-crossings.ensures)
    (c.truncate.ensures.items ∙ ap (take c.count_points-points.result) c.from-order.ensures.0)

-- The points of the row above are gathered, both rows are given positions, and what is picked by these is what the search takes.
use mathlib.Core.Path.{ap, ◌∙◌}
use Prim.Native.Nat.{◌-◌}
use native.Mathlib.Omega.{arith}
use Rattle.pairs.specs.Segments.{placed}
use Rattle.reordering.proofs.StackLaws.{order-low}
use Rattle.reordering.proofs.OrderLaws as laws
use Rattle.reordering.proofs.order_points.Goals as goal

pub gather_row-above-requires : goal.gather_row-above-requires
gather_row-above-requires c = let s = c.requires.stack.stacked in (omega arith, (order-low s, omega (arith, s.long, s.few_points)))

pub place_row-requires : goal.place_row-requires
place_row-requires c = laws.above_low c.requires.stack c.requires.points_value c.requires.points_len_bound _ (c.as_slice.ensures.value ∙ c.gather_row-above.ensures)

pub place_row-requires-2 : goal.place_row-requires-2
place_row-requires-2 c =
    laws.points-low c.requires.stack c.requires.points_value c.requires.points_len_bound _ (c.as_slice.ensures.value ∙ c.gather_row-above.ensures) _ c.place_row.ensures

pub order_segments-requires-clause-few_ends : goal.order_segments-requires-clause-few_ends
order_segments-requires-clause-few_ends c =
    let s = ap (placed (c.args.r - 1)) c.as_slice-2.ensures.value ∙ c.pick_segments.ensures in
    laws.few-ends c.requires.stack c.requires.points_value c.requires.points_len_bound _ (c.as_slice.ensures.value ∙ c.gather_row-above.ensures) _ c.place_row.ensures
    _ c.place_row-2.ensures _ s

pub returns : goal.returns
returns c =
    let s = ap (placed (c.args.r - 1)) c.as_slice-2.ensures.value ∙ c.pick_segments.ensures in
    laws.row-found c.requires.stack c.requires.points_value c.requires.points_len_bound _ (c.as_slice.ensures.value ∙ c.gather_row-above.ensures) _ c.place_row.ensures
    _ c.place_row-2.ensures _ s _ _ _ _ c.order_segments.ensures

-- What the search takes is there, and each point fits an entry of the buffer.
use mathlib.Core.Path.{◌∙◌}
use native.Mathlib.Omega.{arith}
use Rattle.reordering.proofs.StackLaws.{order-low}
use Rattle.rearranging.proofs.LaidLaws.{points_low, found_fits}
use Rattle.rearranging.proofs.arrange.arrange_laid.Goals as goal

pub gather_row-gathered-requires : goal.gather_row-gathered-requires
gather_row-gathered-requires c = let s = c.requires.stacked in (omega arith, (order-low s, omega (arith, s.long, s.few_points)))

pub name_points-requires-clause-fits : goal.name_points-requires-clause-fits
name_points-requires-clause-fits c =
    rw c.as_slice.ensures.value
    (found_fits c.requires c.args.tries c.args.out.now _ (c.as_slice-points.ensures.value ∙ c.gather_row-gathered.ensures) (omega arith) (omega arith) (omega arith) _ _ _ c.order_points-found.ensures)

pub name_points-requires-clause-points : goal.name_points-requires-clause-points
name_points-requires-clause-points c = points_low c.requires c.args.tries c.args.out.now _ (c.as_slice-points.ensures.value ∙ c.gather_row-gathered.ensures)

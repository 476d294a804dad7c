-- The row is numbered, and the best order of it is the answer.
use mathlib.Core.Path.{◌∙◌}
use Rattle.exchange.proofs.RowLaws as laws
use Rattle.exchange.proofs.order_row.Goals as goal

pub find_floor-floor-requires : goal.find_floor-floor-requires
find_floor-floor-requires c = laws.row-points _ _ c.requires.k_le_max_row_points (c.as_slice.ensures.value ∙ c.number_points-order.ensures)

pub find_best-crossings-requires-clause-row_points : goal.find_best-crossings-requires-clause-row_points
find_best-crossings-requires-clause-row_points c = laws.row-points _ _ c.requires.k_le_max_row_points (c.as_mut_slice.ensures.value ∙ c.number_points-order.ensures)

-- The answer by the table is the answer in crossings.
use Rattle.pairs.proofs.AnswerLaws as laws
use Rattle.pairs.proofs.order_segments.Goals as goal

pub fill_costs-requires-clause-up_to : goal.fill_costs-requires-clause-up_to
fill_costs-requires-clause-up_to c = laws.table_empty

pub returns : goal.returns
returns c = laws.row-crossed _ _ _ _ _ _ _ c.requires.k_le_max_row_points c.requires.few_ends c.fill_costs.ensures c.order_row.ensures

use Rattle.lowest.proofs.LowestLaws.{lowest-relaxed}
use Rattle.lowest.proofs.lowest_rows.Goals as goal

pub returns-else-not-judge_rows : goal.returns-else-not-judge_rows
returns-else-not-judge_rows c = lowest-relaxed _ _ _ _ _ _ c.requires.flow_value (c.judge_rows.ensures c.if-not-judge_rows.false)

-- What the row's count asks for, read off the chart.
use Rattle.crossings.proofs.CountLaws as laws
use Rattle.crossings.proofs.count_row.Goals as goal

pub returns-then-b-a-lt2 : goal.returns-then-b-a-lt2
returns-then-b-a-lt2 c = laws.row-single c.requires.countable _ c.requires.r_in_bounds c.if-b-a-lt2.true

pub returns-then-n-lt2 : goal.returns-then-n-lt2
returns-then-n-lt2 c = laws.row-narrow c.requires.countable _ c.requires.r_in_bounds c.if-n-lt2.true

pub returns : goal.returns
returns c = laws.row-counted c.requires.r_in_bounds c.count_between.ensures

pub count_between-requires-clause-all_below : goal.count_between-requires-clause-all_below
count_between-requires-clause-all_below c = laws.taken-low c.requires.countable _ c.requires.r_in_bounds

pub count_between-requires-clause-points_bound : goal.count_between-requires-clause-points_bound
count_between-requires-clause-points_bound c = laws.row-few c.requires.countable.lists _ c.requires.r_in_bounds

-- The order of a chart, the first with fewest crossings of the start and the passes, and what the functions that find it promise one another.
pub mod Fewest
pub mod Drafts
pub mod Kept

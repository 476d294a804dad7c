-- Crossings of segments: by definition, in flat lists, and as they are counted between two rows.
pub mod Crossings
pub mod Placing
pub mod Tally
pub mod Between

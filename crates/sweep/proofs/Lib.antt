-- The start order is the best so far.
pub mod StartedLaws

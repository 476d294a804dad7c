-- The orders of some points as they stand in a dictionary, and the step from one to the next.
pub mod Orders
pub mod Next
pub mod Places

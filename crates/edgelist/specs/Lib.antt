-- Lent edges: what the calls of the record form make of them, and what is said of their copy in flat arrays.
pub mod Calls
pub mod Lent

-- The best order of one row of a table's chart: document 02, request 9.
pub mod Calls
pub mod Arranging

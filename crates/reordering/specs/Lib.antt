-- The best order of one row of a chart: document 02, request 9.
pub mod RowOrder
pub mod Stacked
pub mod Picking

-- The x of a chart's points: document 02, request 7.
pub mod Costs
pub mod Calls
pub mod Costing

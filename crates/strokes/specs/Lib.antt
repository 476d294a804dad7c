-- The strokes of a chart: document 02, request 8.
pub mod Calls
pub mod Placing

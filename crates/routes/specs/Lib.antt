-- The strokes of a chart by the points that they go to: document 02, request 8.
pub mod Routes
pub mod Finding

-- Corners and strokes: document 02, request 8.
pub mod Corners
pub mod Strokes

-- Strokes for C.
pub mod Plain

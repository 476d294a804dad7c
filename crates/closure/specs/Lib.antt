-- What a matrix of walks is, and what the functions that put an edge in leave of it.
pub mod Closure

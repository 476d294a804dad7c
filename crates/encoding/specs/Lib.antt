-- What a table says, and the shortest table that says it.
pub mod Said
pub mod Shortest
pub mod Limits
pub mod Writable

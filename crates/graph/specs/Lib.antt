-- What rows owe the edges, and which rows are the answer; and edges that may be turned.
pub mod Rows
pub mod Search
pub mod Directed

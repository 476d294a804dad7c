-- Loops of edges: what they are, what the search for one looks at, and which soft edges give way to none.
pub mod Ends
pub mod Loops
pub mod Scan
pub mod Oriented

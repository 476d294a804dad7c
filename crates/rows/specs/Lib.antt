-- What is found for edges, and what is answered of it.
pub mod Answers
pub mod Limits
pub mod Placed

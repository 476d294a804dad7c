-- What each call about a table answers.
pub mod Calls
pub mod Starred

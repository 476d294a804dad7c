-- What is written for a stored table, and the call that writes it.
pub mod Calls
pub mod Starred

-- The call of the writer, and what a table can say.
pub mod Calls
pub mod Sayable
pub mod Starred

-- What the calls of the row finder make of a table.
pub mod Calls
pub mod Starred

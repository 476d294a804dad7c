-- What the bytes of a table mean, and what each call of the reader makes of them.
pub mod Limits
pub mod Number
pub mod Table
pub mod Calls
pub mod Fair
pub mod Hex
pub mod Starred

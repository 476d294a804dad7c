-- What a contract sees of a list.
pub mod Listed

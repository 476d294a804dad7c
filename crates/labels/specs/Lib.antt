-- Words, numbers and points as bytes.
pub mod Text
pub mod Labels

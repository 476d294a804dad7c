-- What the calls for C hand back.
pub mod Words

-- What becomes of the best order so far when another is held against it.
pub mod Judging

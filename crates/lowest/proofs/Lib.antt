-- Why it holds.
pub mod LowestLaws

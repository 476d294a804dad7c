-- Why it holds.
pub mod DriveLaws

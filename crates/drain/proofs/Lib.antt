-- Why it holds, by subject.
pub mod DrainLaws
pub mod DriveLaws

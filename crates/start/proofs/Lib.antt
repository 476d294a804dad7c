-- Why it holds, by subject.
pub mod StartLaws

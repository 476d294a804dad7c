-- Laws by subject.
pub mod WordLaws

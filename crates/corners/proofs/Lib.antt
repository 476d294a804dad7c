pub mod CaseLaws
pub mod CornerLaws

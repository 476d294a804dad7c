pub mod FewestLaws
pub mod CountableLaws
pub mod DraftLaws
pub mod TurnLaws
pub mod CompleteLaws
pub mod SampleLaws

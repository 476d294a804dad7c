pub mod PointLaws
pub mod NextLaws
pub mod PlaceLaws
pub mod AdvanceLaws
pub mod ArrangedLaws
pub mod DictionaryLaws
pub mod SampleLaws

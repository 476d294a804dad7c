-- Laws by subject. A layer above wants PlacedLaws, StoreLaws and StepLaws.
pub mod PlacedLaws
pub mod StoreLaws
pub mod TotalLaws
pub mod StepLaws
pub mod HeightLaws
pub mod RowLaws

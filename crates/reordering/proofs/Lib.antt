-- The laws of the best order of one row.
pub mod GatherLaws
pub mod PickLaws
pub mod LabelLaws
pub mod PlaceLaws
pub mod StackLaws
pub mod RowLaws
pub mod OrderLaws
pub mod ShownLaws

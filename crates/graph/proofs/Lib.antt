-- The laws of rows and flows over edges.
pub mod FlowLaws
pub mod DualityLaws
pub mod PigeonLaws
pub mod SearchLaws
pub mod BoundLaws
pub mod PlacementLaws
pub mod DirectedLaws
pub mod PathLaws

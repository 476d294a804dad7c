pub mod EdgeLaws
pub mod PointLaws
pub mod NeighbourLaws
pub mod FewEndsLaws
pub mod RowCountLaws
pub mod ListLaws
pub mod LinkLaws
pub mod PositionLaws

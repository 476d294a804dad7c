-- Why best rows of the auxiliary network are best x, and how large these are.
pub mod EdgeListLaws
pub mod AuxiliaryLaws
pub mod BestLaws
pub mod BoundLaws
pub mod TrialLaws
pub mod ExtendLaws
pub mod OrderLaws
pub mod SeatLaws
pub mod BuildLaws

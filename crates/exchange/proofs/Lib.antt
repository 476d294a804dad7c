-- The laws of what orders cost, of the floor, and of the search for the best one.
pub mod CostLaws
pub mod AgreeLaws
pub mod BestLaws
pub mod SumLaws
pub mod TurnLaws
pub mod RowLaws

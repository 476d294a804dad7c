-- Why it holds, by subject.
pub mod EdgesLaws
pub mod RelaxLaws
pub mod SweepLaws
pub mod BestLaws
pub mod BalanceLaws
pub mod LowLaws
pub mod ArcLaws

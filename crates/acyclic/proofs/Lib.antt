-- Why the search finds the lowest node on a loop, that without one some low rows keep every edge, and that edges which are kept or turned
-- leave none.
pub mod WalkLaws
pub mod ReachLaws
pub mod LoopLaws
pub mod BoundLaws
pub mod FoundLaws
pub mod SetLaws
pub mod MarkLaws
pub mod SettleLaws
pub mod RunLaws
pub mod StandingLaws
pub mod OrientedLaws

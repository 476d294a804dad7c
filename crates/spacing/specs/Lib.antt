-- x of points in a fixed order: which are spaced, what they total, which are best, and the network whose best rows give them.
pub mod Limits
pub mod Coordinates
pub mod Auxiliary
pub mod Trial
pub mod Flat

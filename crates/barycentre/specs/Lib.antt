-- One row put in order by the means of its points, and what the functions over it promise one another.
pub mod PointEnds
pub mod Means
pub mod Reordered
pub mod Rising
pub mod Flat
pub mod Bounds
pub mod Steps

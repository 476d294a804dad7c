-- The start order and the passes, how the code keeps an order, and what the functions over it promise one another.
pub mod Order
pub mod Starts
pub mod Laid
pub mod Kept

-- The printed chart: document 01 under "The printed chart".
pub mod Listing
pub mod Widths
pub mod Calls
pub mod Starred

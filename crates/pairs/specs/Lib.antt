-- What the pairs of a row's points cost: the crossings of their segments with the row above.
pub mod Segments
pub mod Filling

-- When rows are the lowest, and what the looks at edges and nodes tell of it.
pub mod Lowest

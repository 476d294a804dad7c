-- The best order of a row by what its pairs cost, and a floor for every order of it.
pub mod Limits
pub mod Costs
pub mod Best
pub mod Tables
pub mod Turns

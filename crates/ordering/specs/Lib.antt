-- The whole chart, its rows and the order of its points: document 01 under "Pass points and order".
pub mod Calls
pub mod Charting

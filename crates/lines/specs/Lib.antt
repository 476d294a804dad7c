-- The lines of a listing, and how the code goes through a chart.
pub mod Lines
pub mod Printing

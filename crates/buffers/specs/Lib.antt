-- What is said of the numbers of a list, and what storing them leaves in a lent slice.
pub mod Lists
pub mod Written
pub mod Padded
pub mod Keeping

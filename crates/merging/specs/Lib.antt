-- Repeated edges are one line: document 02, request 6.
pub mod Merged
pub mod Merging

-- The search tree, and the push along it.
pub mod Search
pub mod Push

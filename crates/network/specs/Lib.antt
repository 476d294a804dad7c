-- What the solver leaves of its scratch.
pub mod Scratch

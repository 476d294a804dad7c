-- What draining promises.
pub mod Drain

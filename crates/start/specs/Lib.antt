-- What the start of the solver promises.
pub mod Start

-- The laws of the call for the best order of a row.
pub mod NameLaws
pub mod LaidLaws
pub mod ArrangeLaws
pub mod EndLaws
pub mod CallLaws
pub mod StepLaws
pub mod FigureLaws

-- Why a list keeps its blanks.
pub mod FilledLaws

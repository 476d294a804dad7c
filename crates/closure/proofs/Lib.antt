-- Why the matrix says at any time which nodes walks lead to.
pub mod CellLaws
pub mod MarkLaws
pub mod ClosureLaws

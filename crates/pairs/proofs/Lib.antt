-- The laws of the crossings of pairs of points.
pub mod PairLaws
pub mod SegmentLaws
pub mod FillLaws
pub mod AnswerLaws

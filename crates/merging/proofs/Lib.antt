-- Laws by subject. A layer above wants all but those of how edges are merged one by one: MergedLaws, JoinLaws, ChainLaws, MergingLaws.
pub mod AlikeLaws
pub mod MergedLaws
pub mod JoinLaws
pub mod ChainLaws
pub mod FirstLaws
pub mod MergingLaws
pub mod SameLaws
pub mod TotalLaws
pub mod TurnedLaws
pub mod EndsLaws
pub mod RowsLaws
pub mod AloneLaws

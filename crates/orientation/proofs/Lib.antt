-- Why the flags are those of the definition, and the loop found is one of must edges.
pub mod GatherLaws
pub mod MustLaws
pub mod JudgeLaws

-- Laws by subject. A layer above wants StepLaws.
pub mod JudgeLaws
pub mod CallLaws
pub mod LentLaws
pub mod StepLaws
pub mod SizeLaws

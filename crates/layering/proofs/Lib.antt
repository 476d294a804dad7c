-- Laws by subject. A layer above wants RankLaws, CallLaws and StepLaws.
pub mod RankLaws
pub mod CallLaws
pub mod StepLaws
pub mod StarredLaws
pub mod SizeLaws

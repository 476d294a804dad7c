-- Laws by subject. A layer above wants CallLaws, WidthLaws and PrintedLaws.
pub mod WidthLaws
pub mod RowLineLaws
pub mod PageLaws
pub mod CallLaws
pub mod PrintedLaws
pub mod StarredLaws

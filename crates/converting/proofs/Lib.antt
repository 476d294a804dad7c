pub mod ConvertLaws
pub mod CallLaws
pub mod StarredLaws

pub mod CountLaws
pub mod NameLaws
pub mod StarredLaws

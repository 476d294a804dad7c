pub mod CountLaws
pub mod TotalLaws
pub mod InsertLaws
pub mod SortLaws
pub mod RowLaws
pub mod ReorderLaws
pub mod EndsLaws

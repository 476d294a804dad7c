pub mod LeadLaws
pub mod VisitLaws
pub mod FindLaws
pub mod RouteLaws
pub mod RowLaws

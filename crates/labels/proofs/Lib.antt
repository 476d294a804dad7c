-- Laws by subject. A layer above wants DecimalLaws and PageLaws.
pub mod DecimalLaws
pub mod PageLaws

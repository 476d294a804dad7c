-- Why flat lists hold the edges that they were given.
pub mod FlattenLaws
pub mod NumberLaws

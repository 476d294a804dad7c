-- Edges in flat lists, and as they are lent.
pub mod Even
pub mod Flat
pub mod Records

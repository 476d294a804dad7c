-- What a search leaves of the room that it is lent.
pub mod Kept

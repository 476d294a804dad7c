-- What the bytes of the program's input say.
pub mod Input

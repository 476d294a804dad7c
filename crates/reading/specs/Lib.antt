-- What the reader's lists stand for.
pub mod Lists

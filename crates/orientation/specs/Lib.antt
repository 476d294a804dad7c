-- What the functions that keep or turn edges ask for, and what each leaves.
pub mod Orientable
pub mod Judged

-- Why a call is turned down, and what a call makes of its input.
pub mod Refusal

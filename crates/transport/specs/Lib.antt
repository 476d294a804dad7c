-- Supply and demand beside a flow, how the edges are taken in, and how supply and demand move.
pub mod Flow
pub mod Load
pub mod Shift
pub mod Stocks

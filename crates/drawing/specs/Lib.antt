-- What drawing a chart asks.
pub mod Drawing

-- Points of a chart, the segments between them and the lists of these by point, and where a point stands in an order.
pub mod Limits
pub mod Points
pub mod Laying
pub mod Positions
pub mod Lists

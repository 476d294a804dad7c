-- Room to find an order in, of two sizes, and what is answered of the order.
pub mod Rooms

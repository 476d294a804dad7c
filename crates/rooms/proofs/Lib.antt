-- Why there is room enough, and why the order found in it is the drawing.
pub mod RoomLaws

pub mod Boxes
pub mod Seen
pub mod Views
pub mod Wants

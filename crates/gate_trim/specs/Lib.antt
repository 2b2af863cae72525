pub mod Reading
pub mod Marks
pub mod Trimmed
pub mod Moves

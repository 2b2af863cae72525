pub mod Inside
pub mod Mentioned
pub mod Parts

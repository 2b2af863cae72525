pub mod Joining
pub mod Limiting
pub mod Meaning
pub mod Moving
pub mod Noting
pub mod Placing
pub mod Sorting

pub mod Checks
pub mod Complete

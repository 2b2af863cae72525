mod Examples
pub mod Turns
pub mod Openings
pub mod Texts

pub mod Front
pub mod Lines
pub mod Refusals
pub mod Steps

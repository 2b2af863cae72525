pub mod Inputs
pub mod Blasted
pub mod Reached

pub mod Integers
pub mod Names

pub mod Arrays
pub mod Onward
pub mod Pairs

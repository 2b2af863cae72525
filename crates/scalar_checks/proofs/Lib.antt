pub mod Listed
pub mod Operands
pub mod Pushes
pub mod Runs

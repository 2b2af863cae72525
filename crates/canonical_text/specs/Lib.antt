pub mod Functions
pub mod Lines
pub mod Names
pub mod Operands
pub mod Places
pub mod Rvalues
pub mod Types

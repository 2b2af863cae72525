pub mod Lexemes
pub mod Names
pub mod Types
pub mod Places
pub mod Values
pub mod Blocks
pub mod Functions

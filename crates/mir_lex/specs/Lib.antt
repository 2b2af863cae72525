pub mod Agreement
pub mod Bytes
pub mod Coded
pub mod Lexing
pub mod Places
pub mod Tokens
pub mod Views

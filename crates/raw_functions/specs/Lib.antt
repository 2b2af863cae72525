pub mod Doubles
pub mod Limits
pub mod Meant
pub mod Noted
pub mod Steps

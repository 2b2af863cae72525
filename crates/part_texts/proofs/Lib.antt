pub mod Adapting
pub mod OnLiterals
mod Examples

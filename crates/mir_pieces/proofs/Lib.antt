pub mod Boxing
pub mod Classing
pub mod Small
pub mod Tupling

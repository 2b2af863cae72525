pub mod Command
pub mod Told
pub mod Units

pub mod Faults
pub mod Keys
pub mod Labels
pub mod Seen
pub mod Lists
pub mod Values

pub mod Made
pub mod Operators
pub mod Reads
pub mod Rvalues
pub mod Slots

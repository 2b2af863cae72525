pub mod Causes
pub mod Files
pub mod Calls
pub mod Memory

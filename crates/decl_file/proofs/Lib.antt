pub mod Counts
pub mod Utf8
mod Examples

pub mod Report
pub mod Values
pub mod Verdicts

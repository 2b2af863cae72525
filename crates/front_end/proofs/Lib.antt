pub mod LineLemmas
pub mod NameSteps
pub mod Telling

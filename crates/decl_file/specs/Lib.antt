pub mod Gathered
pub mod Traits
pub mod Names
pub mod Clauses
pub mod Units
pub mod File

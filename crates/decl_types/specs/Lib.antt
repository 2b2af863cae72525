pub mod Labelled
pub mod Fields
pub mod Variants
pub mod Enums
pub mod Types

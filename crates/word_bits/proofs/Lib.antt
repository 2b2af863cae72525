pub mod Cuts
pub mod Edges
pub mod Kept
pub mod Overflows
pub mod SignedValues

pub mod Fronts
pub mod SameAs
pub mod Dispatch
pub mod Taking
pub mod Patterns
pub mod InTwo
pub mod Visits

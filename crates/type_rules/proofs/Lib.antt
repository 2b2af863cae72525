pub mod SameTypes
pub mod SameForms
pub mod KnownTraits
pub mod PlainTypes
pub mod Worked
pub mod Examples

pub mod Finding
pub mod Walks
pub mod TraitForms
pub mod PlainForms
pub mod PlainLaws

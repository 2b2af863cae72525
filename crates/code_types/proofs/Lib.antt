pub mod ListLaws
pub mod Colons
pub mod FormLaws

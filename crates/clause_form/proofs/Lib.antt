pub mod ListLaws
pub mod FormLaws

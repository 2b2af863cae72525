mod Examples
pub mod FormLaws

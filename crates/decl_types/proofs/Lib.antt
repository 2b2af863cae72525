pub mod EnumLaws
mod Examples

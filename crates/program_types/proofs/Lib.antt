pub mod CountLaws
pub mod ListLaws
pub mod PartLaws

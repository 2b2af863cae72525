pub mod NumberLaws
pub mod QueryLaws

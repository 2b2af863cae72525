pub mod Examples
pub mod FileLaws
pub mod HashLaws
pub mod ItemLaws
pub mod JoinedLaws
pub mod NumberLaws
pub mod SameLaws

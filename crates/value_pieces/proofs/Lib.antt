pub mod Going
pub mod PartLaws

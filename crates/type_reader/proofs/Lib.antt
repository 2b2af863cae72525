pub mod Chains
pub mod ItemLaws
pub mod Loops
pub mod PartLaws
pub mod WrapperLaws

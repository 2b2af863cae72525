pub mod Texts
pub mod Decimals
pub mod Forms
pub mod Elements

pub mod Form
pub mod Size
pub mod Typing

pub mod Classes
pub mod Coded
pub mod Exact
pub mod Grammar
pub mod Reading

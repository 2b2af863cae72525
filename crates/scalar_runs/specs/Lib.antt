pub mod Builtins
pub mod Engine
pub mod Kinds
pub mod Look
pub mod Operators
pub mod Run
pub mod Values

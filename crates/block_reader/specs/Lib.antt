pub mod Bodies
pub mod Scopes
pub mod Signatures

pub mod Taking
pub mod Going
pub mod Finding

pub mod Walks
pub mod Lists
pub mod ParameterTypes
pub mod Bodies

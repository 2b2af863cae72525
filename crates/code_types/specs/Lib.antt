pub mod Forms
pub mod Lists
pub mod Made
pub mod Views

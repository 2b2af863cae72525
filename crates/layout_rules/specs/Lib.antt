pub mod Judged
pub mod Listed
pub mod Mentions
pub mod Placing
pub mod Refused
pub mod Rules
pub mod Search

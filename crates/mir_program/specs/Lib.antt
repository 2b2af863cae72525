pub mod Apart
pub mod Entries
pub mod Functions
pub mod Joined
pub mod Mentions
pub mod Numbers

pub mod Choices
pub mod Failures
pub mod Rounds
pub mod Runs
pub mod Statuses
pub mod Walks

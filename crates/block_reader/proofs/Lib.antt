pub mod Gathering
pub mod LineTurns
pub mod ScopeLaws

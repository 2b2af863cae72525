mod Examples
pub mod FailureLaws
pub mod LeftLaws
pub mod RunListLaws
pub mod Safe
pub mod StatusLaws
pub mod WalkLaws
pub mod WayLaws

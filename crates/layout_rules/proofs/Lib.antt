pub mod AnswerLaws
pub mod Examples
pub mod JudgeLaws
pub mod PlacingLaws
pub mod RowLaws
pub mod SearchLaws
pub mod UnknownLaws

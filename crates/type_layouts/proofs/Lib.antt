pub mod EntryLaws
pub mod Examples
pub mod HeldLaws
pub mod PartLaws
pub mod RankLaws
pub mod RowLaws

pub mod CommandLemmas
pub mod JudgeLemmas
pub mod UnitLemmas

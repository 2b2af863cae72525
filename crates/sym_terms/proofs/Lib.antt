pub mod EvaluatedLemmas
mod Examples
pub mod Fitting
pub mod Grown
pub mod Sameness
pub mod ValueWords
pub mod WordLaws
pub mod Simplified
pub mod CastLaws
pub mod TermLaws
pub mod CommonParts
pub mod AgainLaws
pub mod Congruences
pub mod SumLaws
pub mod CollectLaws

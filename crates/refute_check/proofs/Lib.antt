pub mod MarkFacts
pub mod StandingFacts
pub mod Examples
pub mod HintFacts

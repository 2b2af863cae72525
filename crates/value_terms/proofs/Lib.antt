pub mod MadeLaws
pub mod OperatorLaws
pub mod RvalueLaws
pub mod SlotLaws
pub mod TypedLaws

pub mod Samples
pub mod TypeReady
pub mod TypeFirsts
pub mod TypeLevels
pub mod PlaceReady
pub mod ValueReady
pub mod ValueFork
pub mod BlockReady
pub mod Lines
pub mod FunctionReady
pub mod OneReading
mod Examples

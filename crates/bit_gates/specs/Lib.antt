pub mod Values
pub mod Circuit
pub mod Inside
pub mod Folding
pub mod Made
pub mod BitOps
pub mod Shifts

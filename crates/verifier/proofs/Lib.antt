pub mod Zones
pub mod ByKind
pub mod ByRule
pub mod Order
pub mod Passing
pub mod Verdicts

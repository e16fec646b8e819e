pub mod Findings
pub mod Fields
pub mod Decoding
pub mod Loading
pub mod Readings

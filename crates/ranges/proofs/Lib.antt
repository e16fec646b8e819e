pub mod Cutting
pub mod Registers

pub mod Bitwise
pub mod LittleEndian
pub mod Made
pub mod Signed
pub mod Writes

pub mod Decoding
pub mod Hosting
pub mod Entries

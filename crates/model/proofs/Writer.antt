-- Document 02, ticket 5: what is proved of the files that are written. Assumes nothing.
pub mod Rows
pub mod Bytes
pub mod Stands
pub mod Units
pub mod Entries
pub mod Fields
pub mod Kept
pub mod Read
pub mod Files
pub mod Programs
pub mod Written
pub mod Refusing

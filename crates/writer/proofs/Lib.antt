pub mod Storing
pub mod Claiming
pub mod Filing
pub mod Answering
pub mod Handing

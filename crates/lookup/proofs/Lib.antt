pub mod Listed
mod Marking
mod Counting
mod Finding

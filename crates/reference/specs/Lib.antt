pub mod Numbers
pub mod Parts
pub mod Runs
pub mod Verdicts
pub mod Works
pub mod Writes

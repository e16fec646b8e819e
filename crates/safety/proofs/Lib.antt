pub mod Invariant
pub mod SafeStep
pub mod SafeRun
pub mod SafeCalls
pub mod Safety
pub mod Loop
pub mod Clauses
pub mod Entries

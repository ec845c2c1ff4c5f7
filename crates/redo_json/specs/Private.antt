-- Definitions that only clauses of private functions cite. They help in proofs and need not be trusted.
pub mod Diagnosing
pub mod Lines
pub mod LogLines
pub mod Needing
pub mod Parts
pub mod Values
pub mod Writing

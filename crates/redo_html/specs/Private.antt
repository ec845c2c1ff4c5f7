-- Definitions that only clauses of private functions cite. They help in proofs and need not be trusted.
pub mod Buffering
pub mod Charting
pub mod Highlighting
pub mod Letters
pub mod Marking
pub mod Writing

-- Definitions that only clauses of private functions cite. They help in proofs and need not be trusted.
pub mod Sums
pub mod Times

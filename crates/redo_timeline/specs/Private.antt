-- Definitions that only clauses of private functions cite. They help in proofs and need not be trusted.
pub mod Counting
pub mod Drafting
pub mod Placing
pub mod Summing

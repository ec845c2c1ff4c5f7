-- Definitions that only clauses of private functions cite. They help in proofs and need not be trusted.
pub mod Collecting
pub mod LogFacts
pub mod Positions
pub mod Sweeping
pub mod TextLines

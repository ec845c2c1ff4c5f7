-- Definitions that only clauses of private functions cite. They help in proofs and need not be trusted.
pub mod FirstReading
pub mod Opening
pub mod Program
pub mod Suggested

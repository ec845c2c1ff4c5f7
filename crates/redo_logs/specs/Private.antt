-- Definitions that only clauses of private functions cite. They help in proofs and need not be trusted.
pub mod PackedLog
pub mod Store
pub mod Stored

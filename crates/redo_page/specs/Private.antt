-- Definitions that only clauses of private functions cite. They help in proofs and need not be trusted.
pub mod Excerpting
pub mod PageTexts
pub mod Referring
pub mod Streaming
pub mod Texts
pub mod Viewing
pub mod Walking
pub mod Writing

-- Definitions that only clauses of private functions cite. They help in proofs and need not be trusted.
pub mod Collecting
pub mod Distribution
pub mod GatherFault
pub mod Posting
pub mod Reading
pub mod Storing

-- Definitions that only clauses of private functions cite.
-- They help to prove the public clauses and are not part of the trusted specification.
pub mod CutLine
pub mod Entries
pub mod Line
pub mod Progress
pub mod Record
pub mod Resolver

-- Definitions that only clauses of private functions cite. They help in proofs and need not be trusted.
pub mod Arguments
pub mod HtmlMatches
pub mod JsonMatches
pub mod Matches
pub mod NewMatches

pub mod FactLemmas
mod FactsRows
pub mod FileLemmas
pub mod LawProofs
pub mod LineLemmas
mod ReadingRows
pub mod StatementLemmas
mod StatementRows
pub mod TargetLemmas

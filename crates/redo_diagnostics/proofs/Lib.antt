pub mod CountLemmas
mod CountRows
mod DiagnosticRows
pub mod ApartLemmas
pub mod FlagLemmas
pub mod KeyLemmas
pub mod KeyPartLemmas
mod KeyRows
mod LawRows
pub mod PlaceLemmas
pub mod PlaceLaws
pub mod PlainLemmas
pub mod ReadLemmas
pub mod SequenceLaws
pub mod SplitLemmas
pub mod StretchLemmas
mod TextLemmas
pub mod WordLemmas

mod CollectingLemmas
mod ContentsLemmas
mod CountLemmas
mod FactsLemmas
mod LargeRows
mod LawLemmas
mod OutlineLemmas
mod OutlineRows
mod PositionsLemmas
mod StatusLemmas
mod SummaryLemmas
mod SweepLemmas
mod TextLineLemmas
mod TextLineRows
mod TreeLemmas
mod WarningLemmas
pub mod FirstLines
pub mod LogEntries
pub mod Nodes
pub mod OnlyTree

mod AloneLemmas
mod AloneRows
mod BarLemmas
mod CountLemmas
pub mod CoverLemmas
mod LaneLemmas
pub mod LawLemmas
mod MostLemmas
mod NeedLemmas
pub mod OrderLemmas
mod TimelineLemmas
mod TimelineRows
mod LargeRows
mod SumLemmas
mod TimeLemmas

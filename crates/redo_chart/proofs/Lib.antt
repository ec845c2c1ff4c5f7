mod ChartLemmas
pub mod ChartRows
mod LawLemmas
mod LawRows
mod RowLemmas
mod LargeRows

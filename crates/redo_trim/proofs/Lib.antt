mod BoundLemmas
pub mod FormLemmas
mod GaugeLemmas
mod LawLemmas
mod LawRows
mod LineLemmas
mod MarkerLemmas
mod TreeLemmas
mod TrimRows
mod LargeRows

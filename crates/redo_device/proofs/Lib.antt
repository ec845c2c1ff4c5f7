mod DeviceRows
pub mod GaveLemmas
mod PieceLemmas
mod SinkLemmas
pub mod WritesLemmas

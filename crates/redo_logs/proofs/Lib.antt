pub mod ChangedLemmas
mod Checkpoints
mod FirstFault
mod FirstLines
mod Growing
mod Keeping
mod KeepingAll
pub mod LeastFault
mod Shifting
mod Storing
mod TableRows
mod TextLines

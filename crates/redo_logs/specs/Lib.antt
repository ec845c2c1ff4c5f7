pub mod EntryRef
pub mod Laws
pub mod Logs
pub mod Numbering
pub mod Private

pub mod Counts
pub mod Diagnostic
pub mod Keys
pub mod Laws
pub mod Plain
pub mod Private

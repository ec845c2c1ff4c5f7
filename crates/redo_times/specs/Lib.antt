pub mod Laws
pub mod Private
pub mod Readers
pub mod Report
pub mod Time
pub mod Times

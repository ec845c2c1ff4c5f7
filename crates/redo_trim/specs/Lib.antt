pub mod Laws
pub mod Private
pub mod Trim
pub mod TrimmedForm

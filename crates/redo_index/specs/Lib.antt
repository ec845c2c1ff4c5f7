pub mod Index
pub mod Private

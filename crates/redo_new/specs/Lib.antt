pub mod Laws
pub mod News
pub mod Private

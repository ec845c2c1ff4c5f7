pub mod Laws
pub mod Private
pub mod Ranks
pub mod Spans
pub mod Summary
pub mod Targets
pub mod Usage
pub mod Window

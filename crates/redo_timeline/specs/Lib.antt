pub mod Alone
pub mod Bars
pub mod Lanes
pub mod Laws
pub mod Order
pub mod Parallelism
pub mod Private
pub mod Timeline

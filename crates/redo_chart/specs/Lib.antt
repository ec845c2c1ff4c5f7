pub mod Axis
pub mod Bands
pub mod Bars
pub mod Laws
pub mod Private
pub mod Targets
pub mod Timeline
pub mod Titles

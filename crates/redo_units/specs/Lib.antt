pub mod Dates
pub mod Durations
pub mod Sizes
pub mod Ticks
pub mod Words

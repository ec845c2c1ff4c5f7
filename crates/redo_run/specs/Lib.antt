pub mod Outcome
pub mod Private
pub mod Rendered
pub mod Run
pub mod RunFault

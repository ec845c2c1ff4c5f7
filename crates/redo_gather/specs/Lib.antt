pub mod Expected
pub mod GatherFault
pub mod Gathered
pub mod Laws
pub mod Private
pub mod Sending
pub mod Streams

pub mod Facts
pub mod Laws
pub mod Private
pub mod Reading
pub mod Statement

pub mod Build
pub mod Diagnostics
pub mod Every
pub mod Fields
pub mod Laws
pub mod Object
pub mod Private
pub mod Text

pub mod Contents
pub mod Facts
pub mod Laws
pub mod Outline
pub mod Private
pub mod TextLines

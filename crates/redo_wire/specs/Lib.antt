pub mod Machine
pub mod Mailbox
pub mod Private

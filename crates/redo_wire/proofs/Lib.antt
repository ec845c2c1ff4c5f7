mod Counting
pub mod EndLemmas
mod Flags
mod Knowing
mod Leading
mod MachineRows
mod MailboxRows
mod Moves
mod Opening
mod Steps

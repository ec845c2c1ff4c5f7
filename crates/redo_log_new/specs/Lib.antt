pub mod Alarm
pub mod Job

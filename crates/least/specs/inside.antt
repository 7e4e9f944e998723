pub mod Entries
pub mod Outcome
pub mod Readings
pub mod Shown

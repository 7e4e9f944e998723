pub mod Steps
pub mod Only
pub mod Rounds

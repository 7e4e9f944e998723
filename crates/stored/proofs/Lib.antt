pub mod Keyed
pub mod Idling
pub mod Clearing

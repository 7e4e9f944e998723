pub mod Leasts
pub mod Options
pub mod Stored

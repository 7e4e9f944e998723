pub mod Walking
pub mod Promised
pub mod Limiting
pub mod Only

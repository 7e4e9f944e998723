pub mod Crossing
pub mod Only

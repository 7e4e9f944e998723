pub mod Digits
pub mod Crossing
pub mod Only

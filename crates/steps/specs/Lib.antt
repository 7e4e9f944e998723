pub mod Stepping
pub mod inside

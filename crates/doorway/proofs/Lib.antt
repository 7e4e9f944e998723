pub mod Opening
pub mod Fours

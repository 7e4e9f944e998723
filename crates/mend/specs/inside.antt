pub mod Moving
pub mod Settling

pub mod Fitness
pub mod Ordering

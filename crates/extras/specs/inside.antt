pub mod Parts
pub mod Shapes
pub mod Tabled
pub mod Jobs

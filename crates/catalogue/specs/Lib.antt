pub mod Parts
pub mod Building
pub mod Faults
pub mod inside

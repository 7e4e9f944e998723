pub mod Appending
pub mod Levels
pub mod Joining
pub mod Parts
pub mod Reading
pub mod Back

pub mod Helps
pub mod Files
pub mod Searches
pub mod Shown
pub mod Plans

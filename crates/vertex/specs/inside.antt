pub mod Sums
pub mod Lasts
pub mod Shown
pub mod Gaps

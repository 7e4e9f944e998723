pub mod Ordering
pub mod Judging
pub mod Using

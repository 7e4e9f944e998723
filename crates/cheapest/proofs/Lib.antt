pub mod Only
pub mod Cases
pub mod Beside
pub mod Ending
pub mod Larger
pub mod Covering
pub mod Weaker

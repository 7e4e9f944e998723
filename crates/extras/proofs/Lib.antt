pub mod Bounds
pub mod Deepest
pub mod Laid
pub mod Listed
pub mod Shaping
pub mod Uses

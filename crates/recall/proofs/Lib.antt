pub mod Falling
pub mod Beside
pub mod Recalling
pub mod Kept
pub mod Answered

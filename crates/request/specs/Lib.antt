pub mod Euclid
pub mod Format
pub mod inside

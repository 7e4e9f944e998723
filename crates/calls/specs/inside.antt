pub mod Cramped
pub mod Roomed

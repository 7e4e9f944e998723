pub mod Latest
pub mod Sets
pub mod Sparing

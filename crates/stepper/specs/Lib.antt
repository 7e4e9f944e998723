pub mod Promises
pub mod inside

pub mod Mending
pub mod Promises
pub mod inside

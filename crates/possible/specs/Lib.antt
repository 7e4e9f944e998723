pub mod TillFound
pub mod Promises
pub mod inside

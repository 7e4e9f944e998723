pub mod Cleared
pub mod Holding
pub mod Naming

pub mod Computed
pub mod Hold

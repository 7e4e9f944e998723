pub mod Showing
pub mod Charged
pub mod Roots
pub mod Lasting
pub mod Ending
pub mod Most

pub mod Margins
pub mod Printing

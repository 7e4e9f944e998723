pub mod Cursors
pub mod Putting

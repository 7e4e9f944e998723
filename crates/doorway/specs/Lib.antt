pub mod Doors
pub mod inside

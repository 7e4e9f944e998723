pub mod Places
pub mod Rooms
pub mod Mending
pub mod Tabled
pub mod Trips
pub mod Stepping
pub mod Planning
pub mod Only

pub mod Trips
pub mod Uses

pub mod Stops
pub mod Lent
pub mod Offers

pub mod Extras
pub mod Rises
pub mod Laws
pub mod Words

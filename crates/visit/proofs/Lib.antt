pub mod Stopping
pub mod Visits
pub mod Telling
pub mod Going
pub mod Entering
pub mod Rooted
pub mod Finding
pub mod Remembering

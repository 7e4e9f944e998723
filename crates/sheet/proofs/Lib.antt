pub mod Signs
pub mod LineFaults
pub mod Laid
pub mod Answers
pub mod Only
pub mod Again
pub mod Round
pub mod Trips

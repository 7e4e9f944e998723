pub mod ByJobs
pub mod Moves
pub mod Keeps
pub mod Clauses
pub mod Laws
pub mod Passing
pub mod Bounds
pub mod Agreeing

pub mod Raw
pub mod Faults
pub mod PartFields
pub mod Tables
pub mod RowLines
pub mod Places
pub mod Outcomes
pub mod Only

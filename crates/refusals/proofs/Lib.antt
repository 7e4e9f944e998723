pub mod Complete
pub mod SameFigures

pub mod Finding
pub mod Fitting
pub mod Laws
pub mod Only
pub mod Figures

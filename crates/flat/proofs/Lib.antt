pub mod Shapes
pub mod Cells

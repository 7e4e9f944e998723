pub mod Grammar
pub mod Numerals
pub mod inside

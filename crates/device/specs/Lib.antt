pub mod Row
pub mod inside

pub mod Decimal
pub mod Split
pub mod Quotes
pub mod Scanning
pub mod Cutting
pub mod Digits
pub mod Puts

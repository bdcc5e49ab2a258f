pub mod Ranges
pub mod Patterns
pub mod Digits
pub mod RangeLaws
pub mod Values

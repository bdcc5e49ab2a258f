pub mod Patterns
pub mod Unquantised
pub mod Closed
pub mod Bounds
pub mod Values

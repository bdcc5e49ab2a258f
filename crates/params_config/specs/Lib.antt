pub mod Ranges
pub mod Config
pub mod Bounds

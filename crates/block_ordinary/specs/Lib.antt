pub mod Ordinary
pub mod Facts
pub mod Parts

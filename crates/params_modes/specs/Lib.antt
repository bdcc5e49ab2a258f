pub mod Modes
pub mod ModeLaws

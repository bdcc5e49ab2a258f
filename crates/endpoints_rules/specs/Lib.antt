pub mod Ldr
pub mod Hdr
pub mod Hdr11
pub mod Modes
pub mod ModeLaws
pub mod BitLaws

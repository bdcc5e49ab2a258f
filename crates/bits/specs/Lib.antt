pub mod Bits
pub mod Blocks
pub mod BitLaws

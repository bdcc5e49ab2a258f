pub mod Swaps
pub mod ReversalLaws
pub mod SwapLaws

pub mod Blend
pub mod BlendLaws
pub mod Values

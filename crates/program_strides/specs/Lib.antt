pub mod Strides
pub mod StridesLaws

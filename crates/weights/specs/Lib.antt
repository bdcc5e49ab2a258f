pub mod Weights
pub mod WeightsGiven
pub mod Parted
pub mod DecodeLaws
pub mod Bounds
pub mod Values

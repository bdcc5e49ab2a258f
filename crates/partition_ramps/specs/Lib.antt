pub mod Ramps
pub mod Held
pub mod RampLaws

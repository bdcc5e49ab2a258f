pub mod Lanes
pub mod LaneLaws

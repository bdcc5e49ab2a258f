pub mod Footprints
pub mod ListedLaws
pub mod Sides

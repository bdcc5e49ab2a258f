pub mod Painted
pub mod Spots
pub mod PaintedLaws

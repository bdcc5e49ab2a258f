pub mod Grids
pub mod GridLaws

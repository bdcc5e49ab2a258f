pub mod Colours
pub mod Bounds
pub mod Marks
pub mod MarkLaws

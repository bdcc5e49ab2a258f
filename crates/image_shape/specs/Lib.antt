pub mod Shapes
pub mod ShapeLaws
pub mod BoundedLaws

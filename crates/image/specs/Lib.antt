pub mod Image
pub mod StepLaws

pub mod Extent
pub mod ExtentLaws
pub mod Values

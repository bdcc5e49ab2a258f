pub mod Checks
pub mod CheckLaws

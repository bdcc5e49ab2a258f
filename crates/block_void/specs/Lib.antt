pub mod Void
pub mod VoidLaws

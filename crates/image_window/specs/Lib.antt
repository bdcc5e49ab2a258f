pub mod Windows
pub mod Places
pub mod MarkLaws

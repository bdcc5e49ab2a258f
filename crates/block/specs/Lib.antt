pub mod Block
pub mod WordLaws
pub mod Entry

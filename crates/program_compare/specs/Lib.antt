pub mod Compare
pub mod CompareLaws

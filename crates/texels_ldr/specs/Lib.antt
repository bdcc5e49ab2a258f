pub mod Plain
pub mod LdrLaws

pub mod LdrLaws

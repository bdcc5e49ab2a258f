pub mod Unquantise
pub mod Forms
pub mod UnquantiseLaws
pub mod Values

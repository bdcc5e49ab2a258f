pub mod Params
pub mod Laws
pub mod Values

pub mod Map
pub mod TopLaws
pub mod MapLaws
pub mod Values

pub mod Endpoints
pub mod EndpointLaws
pub mod Bounds
pub mod Values

pub mod Channels
pub mod HdrLaws

pub mod Channels
pub mod ChannelLaws
mod Cases

pub mod BlockChannels
pub mod ChannelLaws

pub mod ElevenLaws
pub mod ModeLaws

pub mod Sequence
pub mod DigitLaws
pub mod SequenceLaws
pub mod GroupLaws
pub mod TurnLaws

pub mod Down
pub mod DownLaws

pub mod Surface
pub mod SurfaceLaws

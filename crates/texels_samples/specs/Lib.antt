pub mod Planes
pub mod PlaneLaws

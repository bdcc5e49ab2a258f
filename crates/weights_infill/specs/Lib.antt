pub mod Infill
pub mod Fast
pub mod InfillLaws
pub mod SpreadLaws
pub mod FillLaws
pub mod PlaneLaws

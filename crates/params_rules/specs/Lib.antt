pub mod Rules
pub mod RuleLaws
pub mod Fields
pub mod FieldLaws
pub mod Values

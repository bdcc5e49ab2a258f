pub mod HdrLaws

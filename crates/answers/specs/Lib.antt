pub mod Answers
pub mod Results
pub mod ResultLaws

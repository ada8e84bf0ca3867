pub mod Results
pub mod Statements

pub mod Line
pub mod Check
pub mod Statements

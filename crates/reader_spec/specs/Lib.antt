pub mod Reader
pub mod Rules
pub mod Statements

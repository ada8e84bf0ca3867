pub mod Names
pub mod Places
pub mod Calls
pub mod Rules
pub mod Statements

pub mod Operations
pub mod Schedule
pub mod Message
pub mod Running
pub mod States
pub mod Statements

pub mod Operations
pub mod Constants
pub mod Compression
pub mod Message
pub mod Running
pub mod Statements
pub mod Working

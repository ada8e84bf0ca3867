pub mod Chunks
pub mod Answers
pub mod Joined
pub mod AddingUp
pub mod Beside
pub mod Demands
pub mod Lent

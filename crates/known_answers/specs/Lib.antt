pub mod Content
pub mod Names

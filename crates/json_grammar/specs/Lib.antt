pub mod Quoted
pub mod Json
pub mod Grammar
pub mod Members
pub mod Objects
pub mod Statements
pub mod Examples

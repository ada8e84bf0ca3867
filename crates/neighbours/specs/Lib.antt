pub mod Neighbours
pub mod Statements
pub mod Demands
pub mod Lent

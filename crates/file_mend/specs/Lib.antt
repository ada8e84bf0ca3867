pub mod Under
pub mod Demands

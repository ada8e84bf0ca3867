pub mod Kept
pub mod Demands

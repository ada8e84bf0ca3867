pub mod Combos
pub mod Files
pub mod Refusals
pub mod Demands

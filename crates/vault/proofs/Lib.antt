pub mod Combos
pub mod Payloads
pub mod Making
pub mod Demands

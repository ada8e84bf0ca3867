pub mod Placing
pub mod Measured
pub mod Stems
pub mod Opening

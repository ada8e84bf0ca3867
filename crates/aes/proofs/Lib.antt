pub mod Rotations
pub mod Columns
pub mod Schedule
pub mod Ciphers

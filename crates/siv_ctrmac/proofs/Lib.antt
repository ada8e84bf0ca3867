pub mod Sealed
pub mod Instance

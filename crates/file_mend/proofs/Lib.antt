pub mod Under
pub mod InPlace
pub mod Demands
pub mod Spots

pub mod Decimals
pub mod Pieces
pub mod Checks
pub mod Tells

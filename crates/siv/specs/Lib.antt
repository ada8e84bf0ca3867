pub mod Cmac
pub mod Siv
pub mod Pieces
pub mod Statements

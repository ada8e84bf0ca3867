pub mod ReaderBytes
pub mod Statements

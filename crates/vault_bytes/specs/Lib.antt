pub mod VaultBytes
pub mod Statements

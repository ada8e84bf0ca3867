pub mod Field
pub mod SBox
pub mod KeyExpansion
pub mod Cipher
pub mod RoundTable

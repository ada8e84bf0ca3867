pub mod SBoxRule
pub mod RoundTableRule
pub mod ByteStrings
pub mod Vectors

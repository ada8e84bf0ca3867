pub mod Base64url
pub mod ValueTable
pub mod Places
pub mod Broken
pub mod Leading
pub mod Measures
pub mod Base32
pub mod Statements

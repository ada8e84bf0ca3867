pub mod Field
pub mod Gcm
pub mod Elements
pub mod Digits
pub mod Table
pub mod Keyed
pub mod Statements

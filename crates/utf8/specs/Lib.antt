pub mod Utf8
pub mod Character
pub mod ProperText
pub mod Continued
pub mod Statements
pub mod Examples

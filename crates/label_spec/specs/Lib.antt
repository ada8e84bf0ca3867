pub mod Label
pub mod Rules
pub mod Statements
pub mod Examples

pub mod Mend
pub mod Rules
pub mod Statements

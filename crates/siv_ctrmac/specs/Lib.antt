pub mod SivCtrmac
pub mod Statements

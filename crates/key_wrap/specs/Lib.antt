pub mod KeyWrap
pub mod Calls
pub mod Rules
pub mod Statements

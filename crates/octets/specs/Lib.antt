pub mod Bytes
pub mod Xors
pub mod BigEndian
pub mod Words
pub mod Rows

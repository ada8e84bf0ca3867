pub mod Storing
pub mod Lending
pub mod Made

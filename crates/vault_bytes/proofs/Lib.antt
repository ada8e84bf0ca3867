pub mod Combos
pub mod Storing
pub mod Lending

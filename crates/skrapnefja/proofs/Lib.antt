pub mod Reserved
pub mod NoVault
pub mod FromLabel

pub mod ByRecord
pub mod Head

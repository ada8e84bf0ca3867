pub mod Room
pub mod ByRecord
pub mod Paths
pub mod Opening
pub mod Writing

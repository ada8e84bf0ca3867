pub mod Doubling
pub mod Chains
pub mod Ends
pub mod Counters
pub mod Laws
pub mod Vectors

pub mod Counters
pub mod WideCounters
pub mod Texts
pub mod WholeBlocks
pub mod Vectors

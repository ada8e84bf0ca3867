pub mod Segments
pub mod Reading
pub mod Rows
pub mod Broken
pub mod Opening
pub mod Theorems
pub mod Examples

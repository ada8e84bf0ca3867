pub mod Found
pub mod Says
pub mod Segments
pub mod Opened

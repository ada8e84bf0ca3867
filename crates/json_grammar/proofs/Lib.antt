pub mod Options
pub mod Sound
pub mod Complete
pub mod Objects
pub mod Texts
pub mod Members
pub mod Theorems
pub mod Examples

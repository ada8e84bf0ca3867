pub mod ShortForms
pub mod Schedules
pub mod Messages
pub mod Written
pub mod PaddingBytes
pub mod Laws

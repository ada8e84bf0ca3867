pub mod Results
pub mod Decoding

pub mod Bytes
pub mod CodePoints

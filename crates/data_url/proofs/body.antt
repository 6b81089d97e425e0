pub mod Decoding
pub mod Within

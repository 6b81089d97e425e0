pub mod Media
pub mod Serialising
pub mod Stages

pub mod Bodies
pub mod Chunks
pub mod Fetches
pub mod Loads
pub mod Pages
pub mod Ranks
pub mod Reads
pub mod Steps

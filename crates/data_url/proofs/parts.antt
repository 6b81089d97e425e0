pub mod Outputs
pub mod Bodies
pub mod Fragments

pub mod Answers
pub mod Bodies
pub mod Forms
pub mod Gives
pub mod Opens
pub mod Parts
pub mod Steps

pub mod Literals
pub mod Base64
pub mod Mime
pub mod Staged
pub mod Pieces

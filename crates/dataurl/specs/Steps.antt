-- What private functions do: definitions that no contract of a public function uses.
pub mod Base64
pub mod Gathering
pub mod Input
pub mod Parts
pub mod Writing

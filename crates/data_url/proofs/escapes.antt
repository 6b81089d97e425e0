pub mod BlockMarks
pub mod EscapeDigits
pub mod Fronts
pub mod HexCodes
pub mod PackedBlocks
pub mod Reading
pub mod StopBits
pub mod Walking

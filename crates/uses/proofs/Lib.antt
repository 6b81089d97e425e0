pub mod BodyLemmas
pub mod ChunkLemmas
pub mod LengthLemmas
pub mod PageLemmas
pub mod RankLemmas
pub mod ReaderLemmas
pub mod SinkLemmas

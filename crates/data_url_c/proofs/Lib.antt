pub mod BodyLemmas
pub mod GivenLemmas
pub mod OpenLemmas
pub mod WholeLemmas

pub mod TokenTexts
pub mod Items
pub mod Lowercase
pub mod PartTexts
pub mod Parsing
pub mod FirstNames
pub mod FewPairs
pub mod RoundTrips

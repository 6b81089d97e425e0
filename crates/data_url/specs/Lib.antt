-- The definitions that the contracts of public functions use. Begin with `staged` in Fetch: the
-- result of the Fetch Standard's data: URL processor for a text. Then read DataUrl, which says what
-- the methods of a `DataUrl` return.
--
-- The standards, over whole texts:
--   Url         the scheme, the front and the fragment; the percent-encode sets; percent-encoding
--   Percent     percent-decoding
--   Fetch       the data: URL processor
--   Base64      forgiving-base64 decode, its faults, and what is left over after an input
--   CodePoints  the classes of code points of MIME types
--   Mime        the grammar of a MIME type, its record, and the serialisation of a record
--
-- What the public functions do:
--   DataUrl, Decoder, MimeType, Pieces, Looks   what contracts see of each type
--   Run         the calls of a closure
--   Parts       what a call of `parts` writes, and what it leaves for the next call
--   Errors      when each error is returned, and its message
--   Laws        what the functions of `laws` prove about the definitions above
--
-- Steps has the definitions for private functions; no contract of a public function uses them.
pub mod Base64
pub mod CodePoints
pub mod DataUrl
pub mod Decoder
pub mod Errors
pub mod Fetch
pub mod Laws
pub mod Looks
pub mod Mime
pub mod MimeType
pub mod Parts
pub mod Percent
pub mod Pieces
pub mod Run
pub mod Steps
pub mod Url

-- The definitions that examples unfold.
use Rattle.std.specs.Prelude.{⊤}
use Rattle.data_url.specs.Base64.{after_groups, without_whitespace, decoded, complete_bytes, first_fault, groups}
use Rattle.data_url.specs.Base64.{is_valid, kind_of, left_padding, left_symbols, without_padding, values}
use Rattle.data_url.specs.{Base64.{without_last_padding}, CodePoints.{is_quotable, is_token}, Mime.{printed}}
use Rattle.data_url.specs.Fetch.{before_base64, encoded_body, has_base64_suffix, header_of, media_of, mime_text}
use Rattle.data_url.specs.{Fetch.{outcome, staged, staged_front, stripped_header, tail_of}, Percent.{percent_decoding}}
use Rattle.data_url.specs.Url.{after_scheme, before, after, cleaned_text, without_tabs_and_newlines, encoded_path}
use Rattle.data_url.specs.Url.{fragment, front, percent_encoding, serialised, trimmed_text}

-- the definitions that an example unfolds to compute with a literal
unfoldable pub on_literals : ⊤
unfolding is_token is_quotable after_scheme before after cleaned_text without_tabs_and_newlines encoded_path fragment
    front percent_encoding serialised trimmed_text percent_decoding after_groups without_whitespace decoded
    complete_bytes first_fault groups is_valid kind_of left_padding left_symbols without_padding values
    without_last_padding before_base64 encoded_body has_base64_suffix header_of media_of mime_text outcome staged
    staged_front stripped_header tail_of printed
on_literals = tt

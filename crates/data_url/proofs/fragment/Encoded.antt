-- An encoded fragment is read again as it is.
use Rattle.std.proofs.{Common.{◌≡◌, ℕ, ◌<◌, true, List, [], ◌∷◌, Some, refl, arith}, lemmas.Bool.{agree_below_at}}
use Rattle.data_url.specs.{Fetch.{encoded_body, header_of, staged, staged_fragment, staged_front}, Laws.{IsReadAgain}}
use Rattle.data_url.specs.{Laws.{is_fragment_byte}, Mime.{Every}, Url.{serialised, trimmed_text, after_scheme, before}}
use Rattle.data_url.specs.Url.{after, cleaned_text, without_tabs_and_newlines, encoded_path, fragment, front, hex_digit}
use Rattle.data_url.specs.Url.{in_fragment_set, percent_encoding}
use Rattle.data_url.proofs.{header.Stages.{bytes_by_place, bytes_dropped}, texts.CodePoints.{end_stays, not_ends_every}}
use Rattle.data_url.proofs.mime.RoundTrips.{same_seen, seen_same, printed_only, printed_parses, printed_same}
use Rattle.data_url.proofs.percent.Encoding.{IsBytes, encoded_cons, encoded_nil, is_recoded, recoded-decoded}
use Rattle.data_url.proofs.texts.Bytes.{dropped_keeps, dropped_nil}

-- an encoded fragment can have each upper-case hexadecimal digit
digit_byte : (d : ℕ) → d < 16 → is_fragment_byte (hex_digit d) ≡ true
digit_byte d l = grind (arith, agree_below_at)

-- the percent-encoding of a fragment has only bytes that an encoded fragment can have
pub fragment_bytes : (s : List ℕ) → IsBytes s → Every is_fragment_byte (percent_encoding in_fragment_set s)
fragment_bytes [] h = grind (arith, encoded_nil)
fragment_bytes (b ∷ s) h = grind (arith, encoded_cons, digit_byte, fragment_bytes s h.1)

-- a text of bytes that an encoded fragment can have is percent-encoded as itself
encoded_itself : (x : List ℕ) → Every is_fragment_byte x → percent_encoding in_fragment_set x ≡ x
encoded_itself [] h = encoded_nil in_fragment_set
encoded_itself (b ∷ x) h = grind (arith, encoded_cons, encoded_itself x h.1)

-- a text of bytes that an encoded fragment can have has no tab or newline to be dropped
dropped_itself : (t : List ℕ) → Every is_fragment_byte t → without_tabs_and_newlines t ≡ t
dropped_itself [] h = dropped_nil
dropped_itself (b ∷ t) h = grind (arith, dropped_keeps, dropped_itself t h.1)

-- a text of bytes that an encoded fragment can have stays as it is when it is cleaned
cleaned_itself : (t : List ℕ) → Every is_fragment_byte t → cleaned_text t ≡ t
unfolding cleaned_text trimmed_text
cleaned_itself t h = grind (arith, end_stays, not_ends_every, dropped_itself)

-- if the text after the scheme is ",#" and x, the encoded fragment is x, percent-encoded
staged_again : (t x : List ℕ) → after_scheme t ≡ Some (44 ∷ 35 ∷ x)
    → staged_fragment (staged t) ≡ Some (percent_encoding in_fragment_set x)
unfolding staged staged_front header_of encoded_body front before after fragment serialised encoded_path
    percent_encoding
staged_again t x h = rw h refl

-- a text of such bytes, read as a fragment, is percent-encoded as itself
pub read_again : (x : List ℕ) → Every is_fragment_byte x → IsReadAgain x
unfolding after_scheme
read_again x h = grind (arith, staged_again, cleaned_itself, encoded_itself)

-- the lemmas on the printed texts of records
pub ruleset prints = (printed_only, printed_parses, printed_same, same_seen, seen_same)

-- the lemmas for the functions of `laws`
pub ruleset laws = (is_recoded, recoded-decoded, bytes_by_place, bytes_dropped, fragment_bytes, read_again, prints)

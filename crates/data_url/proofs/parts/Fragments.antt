-- A fragment that is encoded into an output, part by part.
use Rattle.std.proofs.Common.{List, [], ap, append_assoc, arith, drop, drop-drop, length, length-append, length-drop}
use Rattle.std.proofs.Common.{length-take, refl, take, ◌+◌, ◌++◌, ◌-◌, ◌/◌, ◌<◌, ◌≡◌, ◌≤◌, ℕ}
use Rattle.data_url.specs.Steps.Parts.{Writes}
use Rattle.data_url.specs.Url.{encoded_fragment, in_fragment_set}
use Rattle.data_url.proofs.parts.Outputs.{Reaches, reaches_more}
use Rattle.data_url.proofs.percent.Encoding.{encoded_few, encoded_on}

-- the bytes before `read` are written to the start of an output, encoded
pub record EncodedTo (text before : List ℕ) (read : ℕ) (out : List ℕ) (len : ℕ) : Type 0 where
  pub within : read ≤ length text
  pub start : read ≡ 0 → len ≡ 0
  pub bytes : List ℕ
  pub fits : length bytes ≤ length before
  pub reaches : Reaches before bytes out len
  pub rest_is : encoded_fragment text ≡ bytes ++ encoded_fragment (drop read text)

-- nothing was read yet
pub encoded_start : (text before : List ℕ) → EncodedTo text before 0 before 0
encoded_start text before = record {
  within = omega arith;
  start = λ e. refl;
  bytes = [];
  fits = omega arith;
  reaches = λ l. (refl, refl);
  rest_is = refl;
}

-- how many bytes are written
pub encoded_len : {text before out : List ℕ} {read len : ℕ} (h : EncodedTo text before read out len)
    → len ≡ length h.bytes
encoded_len h = (h.reaches h.fits).0

-- one part more, which is not longer than a third of the room that is left
pub encoded_more : {text before out out' part x after : List ℕ} {read len len' : ℕ} (n : ℕ)
    → EncodedTo text before read out len → part ≡ take n (drop read text) → length part ≤ (length before - len) / 3
    → x ++ encoded_fragment after ≡ encoded_fragment part → after ≡ drop (length part - length after) part
    → length after < length part → Writes x out len out' len'
    → EncodedTo text before (read + (length part - length after)) out' len'
encoded_more {text} {before} {out} {out'} {part} {x} {after} {read} {len} {len'} n h is l e suffix less w =
    let few = encoded_few in_fragment_set part in
    let fits : length (h.bytes ++ x) ≤ length before = omega (
      arith,
      l,
      few,
      ap length e,
      length-append x (encoded_fragment after),
      length-append h.bytes x,
      encoded_len h,
    ) in
    let on = encoded_on in_fragment_set (drop read text) part x after n is e suffix in
    let rest = drop-drop (length part - length after) read text in
    record {
      within = omega (arith, ap length is, length-take n (drop read text), length-drop read text);
      start = λ z. absurd (omega (arith, z, less));
      bytes = h.bytes ++ x;
      fits = fits;
      reaches = reaches_more before h.bytes out x out' len len' h.reaches w;
      rest_is = cc (
        h.rest_is,
        on,
        rest,
        append_assoc h.bytes x (encoded_fragment (drop (read + (length part - length after)) text)),
      );
    }

-- Reading an input, part by part.
use Rattle.std.proofs.Common.{◌≡◌, ℕ, ◌<◌, List, [], ◌++◌, length, take, Option, None, Some, Result, Ok, Err, Vec, refl}
use Rattle.std.proofs.Common.{sym, ap, ◌∙◌, append_assoc, subst}
use Rattle.std.proofs.lemmas.List.{append-nil}
use Rattle.std.proofs.lemmas.Str.{IsUtf8-string_bytes}
use Rattle.std.specs.Global.{Global}
use Rattle.std.specs.Io.KnownBytes.{Consumes, IsAtEnd, Keeps}
use Rattle.std.specs.Prelude.{IsUtf8, String, string_bytes}
use Rattle.dataurl.specs.Steps.Input.{IsRead, IsReadText, ReadsAll, ReadsText, no_memory, no_text_memory, not_utf8}
use Rattle.dataurl.specs.Steps.Input.{read_failed, text_read_failed, whole, whole_text}
use Rattle.dataurl.specs.declared.fault.Fault.{Fault}
use Rattle.dataurl.specs.declared.fault.Fault.TheVariants.{Base64, Memory, Mime, NoComma, NotADataUrl, NotUtf8, Read}
use Rattle.dataurl.specs.declared.fault.Fault.TheVariants.{Write}

-- a reader that does not change has consumed nothing
pub consumes_none : (old : Option (List ℕ)) → Consumes old old []
consumes_none None = tt
consumes_none (Some xs) = refl

-- two parts that are consumed one after the other are consumed together
pub consumes_then : (a b c : Option (List ℕ)) (x y : List ℕ) → Consumes a b x → Consumes b c y → Consumes a c (x ++ y)
consumes_then None b c x y h k = tt
consumes_then (Some p) None c x y h k = absurd h
consumes_then (Some p) (Some q) None x y h k = absurd k
consumes_then (Some p) (Some q) (Some r) x y h k = h ∙ ap (λ s. x ++ s) k ∙ sym (append_assoc x y r)

-- a reader that does not change after a part was consumed has consumed that part
pub consumes_kept : (a b c : Option (List ℕ)) (x : List ℕ) → Consumes a b x → Keeps b c → Consumes a c x
consumes_kept None b c x h k = tt
consumes_kept (Some p) None c x h k = absurd h
consumes_kept (Some p) (Some q) None x h k = absurd k
consumes_kept (Some p) (Some q) (Some r) x h k = h ∙ ap (λ s. x ++ s) (sym k)

-- if the bytes consumed are those returned, and the input is at its end, the whole input was read
pub reads_all : (old new : Option (List ℕ)) (bytes : Vec ℕ Global) → Consumes old new bytes.items → IsAtEnd new
    → ReadsAll old new (Ok bytes)
reads_all old new bytes c e = record { input = bytes.items; consumed = c; is_read = whole refl e }

-- a read of no bytes means that the input ended
pub reads_end : (old now new : Option (List ℕ)) (bytes : Vec ℕ Global) (n : ℕ) (buf : List ℕ) → n ≡ 0 → 0 < length buf
    → Consumes old now bytes.items → Consumes now new (take n buf) × (n ≡ 0 → 0 < length buf → IsAtEnd new)
    → ReadsAll old new (Ok bytes)
reads_end old now new bytes n buf z some c r =
    let P : List ℕ → Type 0 = λ s. Consumes old new s in
    let all = consumes_then old now new bytes.items (take n buf) c r.0 in
    let same : bytes.items ++ take n buf ≡ bytes.items = cc (append-nil bytes.items) in
    reads_all old new bytes (subst P same all) (r.1 z some)

-- if allocation fails after a part and one more piece were consumed, reading the whole input returns that fault
pub reads_no_memory : (old now new : Option (List ℕ)) (bytes piece : List ℕ) → Consumes old now bytes
    → Consumes now new piece → ReadsAll old new (Err Memory)
reads_no_memory old now new bytes piece c d =
    record { input = bytes ++ piece; consumed = consumes_then old now new bytes piece c d; is_read = no_memory }

-- if a read fails after a part was consumed, and consumes nothing, reading the whole input returns that fault
pub reads_failed : (old now new : Option (List ℕ)) (bytes : List ℕ) → Consumes old now bytes → Keeps now new
    → ReadsAll old new (Err Read)
reads_failed old now new bytes c k = record {
  input = bytes;
  consumed = consumes_kept old now new bytes c k;
  is_read = read_failed;
}

-- reading the whole input may return a failed read after any part was consumed
pub reads_no_end : (old new : Option (List ℕ)) (bytes : List ℕ) → Consumes old new bytes → ReadsAll old new (Err Read)
reads_no_end old new bytes c = record { input = bytes; consumed = c; is_read = read_failed }

-- Texts

-- if reading the bytes of an input returned a fault, reading its text returns that fault
failed_is : (left : Option (List ℕ)) (input : List ℕ) (r : Result (Vec ℕ Global) Fault) (fault : Fault) → r ≡ Err fault
    → IsRead left input r → IsReadText left input (Err fault)
failed_is left input (Ok bytes) fault e h = absurd (let k = e in cc)
failed_is left input (Err Memory) fault e no_memory = let same : Memory ≡ fault = cc in let P : Fault → Type 0 =
    λ f. IsReadText left input (Err f) in subst P same no_text_memory
failed_is left input (Err Read) fault e read_failed = let same : Read ≡ fault = cc in let P : Fault → Type 0 =
    λ f. IsReadText left input (Err f) in subst P same text_read_failed
failed_is left input (Err NotADataUrl) fault e h = elim h [ ]
failed_is left input (Err NoComma) fault e h = elim h [ ]
failed_is left input (Err (Base64 kind)) fault e h = elim h [ ]
failed_is left input (Err Mime) fault e h = elim h [ ]
failed_is left input (Err NotUtf8) fault e h = elim h [ ]
failed_is left input (Err Write) fault e h = elim h [ ]

-- a fault of reading the whole input is a fault of reading it as a text
pub text_failed : (old new : Option (List ℕ)) (fault : Fault) → ReadsAll old new (Err fault)
    → ReadsText old new (Err fault)
text_failed old new fault h = record {
  input = h.input;
  consumed = h.consumed;
  is_read = failed_is new h.input (Err fault) fault refl h.is_read;
}

-- if reading an input returned `Ok`, it returned all bytes of the input, up to its end
read_items : (left : Option (List ℕ)) (input : List ℕ) (r : Result (Vec ℕ Global) Fault) (bytes : Vec ℕ Global)
    → r ≡ Ok bytes → IsRead left input r → (bytes.items ≡ input) × IsAtEnd left
read_items left input (Ok b) bytes e (whole same end) =
    let k : b ≡ bytes = cc in
    (ap (λ v. v.items) (sym k) ∙ same, end)
read_items left input (Err f) bytes e h = absurd (let k = e in cc)

-- a text with the bytes of the whole input is the input, read as a text
pub text_whole : (old new : Option (List ℕ)) (bytes : Vec ℕ Global) (text : String Global) → ReadsAll old new (Ok bytes)
    → string_bytes text ≡ bytes.items → ReadsText old new (Ok text)
text_whole old new bytes text h e =
    let k = read_items new h.input (Ok bytes) bytes refl h.is_read in
    record {
      input = h.input;
      consumed = h.consumed;
      is_read = whole_text (e ∙ k.0) (subst IsUtf8 (e ∙ k.0) (IsUtf8-string_bytes text)) k.1;
    }

-- if the whole input is not UTF-8, reading it as a text returns that fault
pub text_refused : (old new : Option (List ℕ)) (bytes : Vec ℕ Global) → ReadsAll old new (Ok bytes)
    → (IsUtf8 bytes.items → ⊥) → ReadsText old new (Err NotUtf8)
text_refused old new bytes h u =
    let k = read_items new h.input (Ok bytes) bytes refl h.is_read in
    record { input = h.input; consumed = h.consumed; is_read = not_utf8 (λ v. u (subst IsUtf8 (sym k.0) v)) k.1 }

-- Writing bytes, part by part.
use Rattle.std.proofs.Common.{◌≡◌, ℕ, ◌<◌, List, [], ◌++◌, length, take, drop, Option, None, Some, Result, Ok, Err}
use Rattle.std.proofs.Common.{refl, sym, ap, ◌∙◌, append_assoc, take-append-drop, take_all, length-drop, le_of_eq, ◌-◌}
use Rattle.std.proofs.Common.{subst, arith, length-append}
use Rattle.std.proofs.lemmas.List.{append-nil}
use Rattle.std.specs.Io.KnownBytes.{Appends, Keeps}
use Rattle.data_url.specs.Run.{IsPrefix}
use Rattle.dataurl.specs.Runs.{IsProperPrefix}
use Rattle.dataurl.specs.Steps.Writing.{IsWritten, Writes, all, beginning}
use Rattle.dataurl.specs.declared.fault.WriteFailed.{WriteFailed}

-- nothing is appended to a writer that does not change
pub appends_none : (old : Option (List ℕ)) → Appends old old []
appends_none None = tt
appends_none (Some xs) = sym (append-nil xs)

-- two parts that are appended one after the other are appended together
pub appends_then : (a b c : Option (List ℕ)) (x y : List ℕ) → Appends a b x → Appends b c y → Appends a c (x ++ y)
appends_then None b c x y h k = tt
appends_then (Some p) None c x y h k = absurd h
appends_then (Some p) (Some q) None x y h k = absurd k
appends_then (Some p) (Some q) (Some r) x y h k = k ∙ ap (λ s. s ++ y) h ∙ append_assoc p x y

-- a writer that does not change after a part was appended has had only that part appended
pub appends_kept : (a b c : Option (List ℕ)) (x : List ℕ) → Appends a b x → Keeps b c → Appends a c x
appends_kept None b c x h k = tt
appends_kept (Some p) None c x h k = absurd h
appends_kept (Some p) (Some q) None x h k = absurd k
appends_kept (Some p) (Some q) (Some r) x h k = k ∙ h

-- a part of the bytes was written, and the rest is not written yet
pub record Going (bytes rest : List ℕ) (old now : Option (List ℕ)) : Type 0 where
  pub written : List ℕ
  pub appended : Appends old now written
  pub joined : bytes ≡ written ++ rest

-- at the start nothing is written, and all bytes are left
pub going_none : (bytes : List ℕ) (old : Option (List ℕ)) → Going bytes bytes old old
going_none bytes old = record { written = []; appended = appends_none old; joined = refl }

-- after n of the bytes that are left are appended, the others are left
pub going_more : (bytes rest : List ℕ) (n : ℕ) (old now new : Option (List ℕ)) → Going bytes rest old now
    → Appends now new (take n rest) → Going bytes (drop n rest) old new
going_more bytes rest n old now new g a = grind (arith, appends_then, take-append-drop, append_assoc)

-- if no bytes are left, all are written
pub going_ends : (bytes rest : List ℕ) (old now : Option (List ℕ)) → rest ≡ [] → Going bytes rest old now
    → Writes bytes old now (Ok tt)
going_ends bytes rest old now e g =
    let same : g.written ≡ bytes = sym (append-nil g.written) ∙ ap (λ s. g.written ++ s) (sym e) ∙ sym g.joined in
    let P : List ℕ → Type 0 = λ w. IsWritten bytes w (Ok tt) in
    record { written = g.written; appended = g.appended; is_written = subst P (sym same) all }

-- if bytes are left and a write fails, a proper prefix of all bytes is written
pub going_fails : (bytes rest : List ℕ) (old now new : Option (List ℕ)) (failed : WriteFailed) → 0 < length rest
    → Keeps now new → Going bytes rest old now → Writes bytes old new (Err failed)
going_fails bytes rest old now new failed some k g =
    record {
      written = g.written;
      appended = appends_kept old now new g.written g.appended k;
      is_written = beginning (rest, g.joined, some);
    }

-- nothing was written
pub going_stops : (bytes rest : List ℕ) (n : ℕ) (old now new : Option (List ℕ)) (failed : WriteFailed) → n ≡ 0
    → 0 < length rest → Appends now new (take n rest) → Going bytes rest old now → Writes bytes old new (Err failed)
going_stops bytes rest n old now new failed z some a g =
    let m = going_more bytes rest n old now new g a in
    let P : ℕ → Type 0 = λ k. 0 < length (drop k rest) in
    let left : 0 < length (drop n rest) = subst P (sym z) some in
    record { written = m.written; appended = m.appended; is_written = beginning (drop n rest, m.joined, left) }

-- a slice from a place to the end
pub to_the_end : (n : ℕ) (s t : List ℕ) → t ≡ s → take (length t - n) (drop n s) ≡ drop n s
to_the_end n s t e = grind (arith, take_all, le_of_eq, length-drop)

-- Proper prefixes

-- a proper prefix of a prefix is a proper prefix of the whole
pub beginning_of : (xs ys zs : List ℕ) → IsProperPrefix xs ys → IsPrefix ys zs → IsProperPrefix xs zs
beginning_of xs ys zs b p = grind (arith, append_assoc, length-append)

-- after the same bytes it is a proper prefix too
pub beginning_after : (front xs ys : List ℕ) → IsProperPrefix xs ys → IsProperPrefix (front ++ xs) (front ++ ys)
beginning_after front xs ys b = (b.0, ap (λ s. front ++ s) b.1 ∙ sym (append_assoc front xs b.0), b.2)

-- One write

-- if writing returns `Ok`, all bytes are written
pub written_all : (bytes written : List ℕ) (r : Result (Unit {0}) WriteFailed) → r ≡ Ok tt → IsWritten bytes written r
    → written ≡ bytes
written_all bytes written r e all = refl
written_all bytes written r e (beginning p) = absurd (let k = e in cc)

-- if writing returns an error, a proper prefix of the bytes is written
pub written_some : (bytes written : List ℕ) (r : Result (Unit {0}) WriteFailed) (failed : WriteFailed) → r ≡ Err failed
    → IsWritten bytes written r → IsProperPrefix written bytes
written_some bytes written r failed e all = absurd (let k = e in cc)
written_some bytes written r failed e (beginning p) = p

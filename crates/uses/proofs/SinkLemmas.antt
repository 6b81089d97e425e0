-- What is written to a sink of a piece, and of the pieces of a body.
use Rattle.std.proofs.Common.{◌≡◌, ℕ, ◌<◌, ◌+◌, ◌-◌, List, [], ◌++◌, length, take, drop, Option, None, Some, Result, Ok}
use Rattle.std.proofs.Common.{Err, refl, sym, ap, ◌∙◌, append_assoc, take-append-drop, take_all, length-drop, le_of_eq}
use Rattle.std.proofs.Common.{arith, length-append}
use Rattle.std.proofs.lemmas.List.{append-nil}
use Rattle.std.specs.Io.KnownBytes.{Appends, Keeps}
use Rattle.data_url.specs.DataUrl.{Decodes}
use Rattle.data_url.specs.Fetch.{Outcome}
use Rattle.data_url.specs.Run.{IsPrefix}
use Rattle.data_url.specs.declared.forgiving_base64.DecodeError.{DecodeError}
use Rattle.data_url.specs.declared.forgiving_base64.DecodeError.TheVariants.{InvalidBase64, WriteError}
use Rattle.data_url.proofs.api.{EndsWith, body_ends, prefix_after, prefix_trans}
use Rattle.uses.specs.Bodies.{AnyAnswer}
use Rattle.uses.specs.Loads.{StreamsBody, TakesWithin}
use Rattle.uses.specs.Steps.{Writes, WritesWithin}
use Rattle.uses.specs.declared.loader.LoadError.TheVariants as errors
use Rattle.uses.specs.declared.loader.Refusal.{Refusal}
use Rattle.uses.specs.declared.loader.Refusal.TheVariants.{OverLimit, SinkFailed}

-- nothing is appended to a sink that does not change
pub appends_none : (old : Option (List ℕ)) → Appends old old []
appends_none None = tt
appends_none (Some xs) = sym (append-nil xs)

-- two parts that are appended one after the other are appended together
pub appends_then : (a b c : Option (List ℕ)) (x y : List ℕ) → Appends a b x → Appends b c y → Appends a c (x ++ y)
appends_then None b c x y h k = tt
appends_then (Some p) None c x y h k = absurd h
appends_then (Some p) (Some q) None x y h k = absurd k
appends_then (Some p) (Some q) (Some r) x y h k = k ∙ ap (λ s. s ++ y) h ∙ append_assoc p x y

-- if bytes are appended to a sink, which does not change after that, these bytes were appended
appends_kept : (a b c : Option (List ℕ)) (x : List ℕ) → Appends a b x → Keeps b c → Appends a c x
appends_kept None b c x h k = tt
appends_kept (Some p) None c x h k = absurd h
appends_kept (Some p) (Some q) None x h k = absurd k
appends_kept (Some p) (Some q) (Some r) x h k = k ∙ h

-- One piece

-- a part of the piece was written, and the rest is not written yet
pub record Going (piece rest : List ℕ) (old now : Option (List ℕ)) : Type 0 where
  pub written : List ℕ
  pub taken : Appends old now written
  pub joined : piece ≡ written ++ rest

-- at the start nothing is written, and the whole piece is left
pub going_none : (piece : List ℕ) (old : Option (List ℕ)) → Going piece piece old old
going_none piece old = record { written = []; taken = appends_none old; joined = refl }

-- after n of the bytes that are left are appended, the others are left
pub going_more : (piece rest : List ℕ) (n : ℕ) (old now new : Option (List ℕ)) → Going piece rest old now
    → Appends now new (take n rest) → Going piece (drop n rest) old new
going_more piece rest n old now new g a = grind (arith, appends_then, take-append-drop, append_assoc)

-- if no bytes are left, the whole piece is written
pub going_ends : (piece rest : List ℕ) (old now : Option (List ℕ)) → rest ≡ [] → Going piece rest old now
    → Writes piece old now (Ok tt)
going_ends piece rest old now e g = grind (arith, append-nil)

-- if the sink fails without a change, a part of the piece is written
pub going_fails : (piece rest : List ℕ) (old now new : Option (List ℕ)) → Keeps now new → Going piece rest old now
    → Writes piece old new (Err SinkFailed)
going_fails piece rest old now new k g = grind (arith, appends_kept)

-- a write that wrote n bytes, and then failed
pub going_stops : (piece rest : List ℕ) (n : ℕ) (old now new : Option (List ℕ)) → Appends now new (take n rest)
    → Going piece rest old now → Writes piece old new (Err SinkFailed)
going_stops piece rest n old now new a g =
    let m = going_more piece rest n old now new g a in
    record { bytes = m.written; taken = m.taken; begins = (drop n rest, m.joined) }

-- a slice from a place to the end
pub to_the_end : (n : ℕ) (s t : List ℕ) → t ≡ s → take (length t - n) (drop n s) ≡ drop n s
to_the_end n s t e = grind (arith, take_all, le_of_eq, length-drop)

-- The pieces of a body

-- what was written of a body under a limit, from the result of decoding
abbrev pub Streamed : Outcome → ℕ → Option (List ℕ) → Option (List ℕ) → Result (Unit {0}) (DecodeError Refusal) → Type 0
Streamed body limit old new (Ok x) = StreamsBody body limit old new (Ok tt)
Streamed body limit old new (Err (InvalidBase64 kind)) =
    StreamsBody body limit old new (Err (errors.InvalidBase64 kind))
Streamed body limit old new (Err (WriteError OverLimit)) = StreamsBody body limit old new (Err errors.OverLimit)
Streamed body limit old new (Err (WriteError SinkFailed)) = StreamsBody body limit old new (Err errors.SinkFailed)

-- the bytes so far were written, and fit in the limit
abbrev Kept : {F : Type 0} → (F → ℕ) → (F → Option (List ℕ)) → ℕ → Option (List ℕ) → List ℕ → F → Type 0
Kept room holds limit old bytes p = (room p + length bytes ≡ limit) × Appends old (holds p) bytes

-- the sink took a prefix of the bytes within the limit; if the limit was the reason, the bytes exceed it
abbrev Stopped : {F : Type 0} → (F → Option (List ℕ)) → ℕ → Option (List ℕ) → List ℕ → Refusal → F → Type 0
Stopped holds limit old bytes OverLimit p = (limit < length bytes) × TakesWithin bytes limit old (holds p)
Stopped holds limit old bytes SinkFailed p = TakesWithin bytes limit old (holds p)

-- if a piece is refused after bytes that were kept, the output stopped within these bytes and the piece
stops : {F : Type 0} (room : F → ℕ) (holds : F → Option (List ℕ)) (limit : ℕ) (old : Option (List ℕ))
    (bytes piece : List ℕ) (e : Refusal) (p q : F)
    → Kept room holds limit old bytes p → WritesWithin piece (room p) (room q) (holds p) (holds q) (Err e)
    → Stopped holds limit old (bytes ++ piece) e q
stops room holds limit old bytes piece OverLimit p q k s = grind (arith, length-append)
stops room holds limit old bytes piece SinkFailed p q k s = record {
  bytes = bytes ++ s.1.bytes;
  taken = appends_then old (holds p) (holds q) bytes s.1.bytes k.1 s.1.taken;
  begins = prefix_after bytes s.1.bytes piece s.1.begins;
  within = omega (
    arith,
    s.0,
    k.0,
    length-append bytes s.1.bytes,
    ap length s.1.begins.1,
    length-append s.1.bytes s.1.begins.0,
  );
}

-- what a sink took of a text within a limit, it took of each text of which that text is a prefix
within_whole : {text whole : List ℕ} {limit : ℕ} {old new : Option (List ℕ)} → IsPrefix text whole
    → TakesWithin text limit old new → TakesWithin whole limit old new
within_whole {text} {whole} p t = record {
  bytes = t.bytes;
  taken = t.taken;
  begins = prefix_trans t.bytes text whole t.begins p;
  within = t.within;
}

-- a body that ended with its bytes kept, or was stopped, was streamed within the limit
streamed_by : {F : Type 0} (room : F → ℕ) (holds : F → Option (List ℕ)) (limit : ℕ) (old : Option (List ℕ)) (g : F)
    (body : Outcome) (s : Result (Unit {0}) (DecodeError Refusal))
    → EndsWith (Kept room holds limit old) (Stopped holds limit old) body AnyAnswer g s
    → Streamed body limit old (holds g) s
streamed_by room holds limit old g body (Ok x) h = (h.0, h.1, omega (arith, h.3.0), h.3.1)
streamed_by room holds limit old g body (Err (InvalidBase64 kind)) h = (h.0, h.1, omega (arith, h.2.0), h.2.1)
streamed_by room holds limit old g body (Err (WriteError OverLimit)) h = grind (arith, length-append, within_whole)
streamed_by room holds limit old g body (Err (WriteError SinkFailed)) h = within_whole h.1 h.2

-- what a closure wrote, if it writes each piece that fits into the rest of a limit
pub streamed : {F : Type 0} {step : F → List ℕ → Result (Unit {0}) Refusal → F → Type 0} {f g : F} {most : ℕ}
    {body : Outcome} {r s : Result (Unit {0}) (DecodeError Refusal)} → Decodes step f most body AnyAnswer r g → r ≡ s
    → (room : F → ℕ) (holds : F → Option (List ℕ))
    → ((p : F) (piece : List ℕ) (a : Result (Unit {0}) Refusal) (q : F) → step p piece a q
    → WritesWithin piece (room p) (room q) (holds p) (holds q) a)
    → Streamed body (room f) (holds f) (holds g) s
streamed {f = f} {g = g} {body = body} {s = s} d e room holds writes =
    streamed_by room holds (room f) (holds f) g body s
    (body_ends d e (Kept room holds (room f) (holds f)) (Stopped holds (room f) (holds f))
    (λ bytes p piece q k c. let w = writes p piece (Ok tt) q c in (
      omega (arith, w.0, k.0, length-append bytes piece),
      appends_then (holds f) (holds p) (holds q) bytes piece k.1
          w.1,
    ))
    (λ bytes p piece a q k c. stops room holds (room f) (holds f) bytes piece a p q k (writes p piece (Err a) q c))
    (omega arith, appends_none (holds f)))

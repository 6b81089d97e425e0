-- The definitions of base64, read byte by byte: padding, faults and valid texts.
use Rattle.std.proofs.Common.{List, [], ◌∷◌, ◌++◌, append-nil, take_at, length, get_or, replicate, Option, None, Some}
use Rattle.std.proofs.Common.{length-append, map, is_some, ◌/◌, ◌*◌, drop, length-drop, ◌≡◌, ℕ, suc, zero, ◌+◌, Bool}
use Rattle.std.proofs.Common.{refl, ap, sym, ◌∙◌, inl, inr, append_assoc, pred, ◌<◌, ◌≤◌, arith, ◌%◌, eqb}
use Rattle.std.{proofs.Common.{true, false, not, cond, ◌&&◌, ◌||◌}, proofs.lemmas.List.Folds.{list_any-append}}
use Rattle.std.{proofs.Math.Bool.{or-false, or_assoc}, specs.List.{filter, find, list_any, range_with_len, list_all}}
use Rattle.std.proofs.lemmas.Bool.{cases_Bool, false≢true, eqb-true, false_from_ne_true, agree_below_at, and_parts}
use Rattle.std.proofs.lemmas.List.{length-map, drop-map, get_or_at, length_push, length-replicate}
use Rattle.std.specs.Char.{is_ascii_whitespace}
use Rattle.data_url.specs.Base64.{before_place, first_fault, is_fault, is_symbol, is_valid, without_padding, kind_of}
use Rattle.data_url.specs.{Base64.{complete_bytes, decoded, symbol_value}}
use Rattle.data_url.proofs.facts.Definitions.{IsFirstFault, IsSymbolsAndPadding, PaddingFits}
use Rattle.data_url.specs.Base64.{groups, values, without_last_padding, Kind, after_groups, without_whitespace}
use Rattle.data_url.specs.{Mime.{Every}, declared.forgiving_base64.InvalidBase64Details.TheVariants.{UnexpectedSymbol}}
use Rattle.data_url.specs.declared.forgiving_base64.InvalidBase64Details.TheVariants.{AlphabetSymbolAfterPadding}
use Rattle.data_url.specs.declared.forgiving_base64.InvalidBase64Details.TheVariants.{LoneAlphabetSymbol, Padding}

-- A walk over a text that remembers whether it has seen padding

-- `Some` is not `None`
pub some_not_none : {A : Type 0} (x : A) → Some x ≡ None → ⊥
some_not_none x e = cc

-- whether a byte is '='
abbrev pub is_pad : ℕ → Bool
is_pad c = eqb c 61

-- whether a byte is a fault, from its classes and whether there is padding before it
abbrev pub bad : Bool → Bool → Bool → Bool → Bool
bad space pad symbol seen = not (space || (pad || symbol)) || (symbol && seen)

-- a byte is in at most one class
pub record Class (space pad symbol : Bool) : Type 0 where
  pub of_space : space ≡ true → (pad ≡ false) × (symbol ≡ false)
  pub of_pad : pad ≡ true → symbol ≡ false

-- each byte is in at most one of the classes whitespace, '=' and symbol
pub classes : (c : ℕ) → Class (is_ascii_whitespace c) (is_pad c) (is_symbol c)
classes c = record {
  of_space = λ e.
      let l : c < 33 = grind arith in
      (agree_below_at is_pad (λ _. false) 33 c refl l, agree_below_at is_symbol (λ _. false) 33 c refl l);
  of_pad = λ e. ap is_symbol (eqb-true c 61 e);
}

-- whitespace is neither padding nor a symbol
pub space_alone : {x y z : Bool} → Class x y z → x ≡ true → (y ≡ false) × (z ≡ false)
space_alone k e = k.of_space e

-- a symbol is neither whitespace nor padding
pub symbol_alone : {x y z : Bool} → Class x y z → z ≡ true → (x ≡ false) × (y ≡ false)
symbol_alone {x} {y} {z} k e = grind (arith, k.of_space, k.of_pad)

-- whether a byte is a fault, from whether there is padding before it
abbrev pub is_bad : Bool → ℕ → Bool
is_bad seen c = bad (is_ascii_whitespace c) (is_pad c) (is_symbol c) seen

-- the byte at the first fault; there may be padding before the text
unfoldable pub fault_byte : Bool → List ℕ → Option ℕ
fault_byte seen [] = None
fault_byte seen (c ∷ t) = cond (is_bad seen c) (Some c) (fault_byte (seen || is_pad c) t)

-- the bytes before it
unfoldable pub before_fault : Bool → List ℕ → List ℕ
before_fault seen [] = []
before_fault seen (c ∷ t) = cond (is_bad seen c) [] (c ∷ before_fault (seen || is_pad c) t)

-- Two texts

-- if a walk that begins with a byte finds no fault, the byte is no fault, and the walk after it finds none
pub passed : (v : Bool) (c : ℕ) (o : Option ℕ) → cond v (Some c) o ≡ None → (v ≡ false) × (o ≡ None)
passed true c o h = absurd (some_not_none c h)
passed false c o h = (refl, h)

-- if a has no fault, the fault of a ++ b is that of b, where padding in a counts as padding before b
pub fault-append : (a b : List ℕ) (s : Bool) → fault_byte s a ≡ None
    → fault_byte s (a ++ b) ≡ fault_byte (s || list_any is_pad a) b
unfolding fault_byte
fault-append [] b s h = ap (λ x. fault_byte x b) (sym (or-false s))
fault-append (c ∷ t) b s h =
    let k = passed (is_bad s c) c _ h in
    cc (k.0, or_assoc s (is_pad c) (list_any is_pad t), fault-append t b (s || is_pad c) k.1)

-- if a has a fault, a ++ b has the same fault
pub fault-append_some : (a b : List ℕ) (s : Bool) (x : ℕ) → fault_byte s a ≡ Some x → fault_byte s (a ++ b) ≡ Some x
unfolding fault_byte
fault-append_some [] b s x h = absurd (some_not_none x (sym h))
fault-append_some (c ∷ t) b s x h = elim (cases_Bool (is_bad s c)) [
  | inl e ↦ cc (e, h)
  | inr e ↦ cc (e, fault-append_some t b (s || is_pad c) x (cc (e, h)))
]

-- if a has no fault, the bytes of a ++ b before the fault are a and then those of b before its fault
pub before-append : (a b : List ℕ) (s : Bool) → fault_byte s a ≡ None
    → before_fault s (a ++ b) ≡ a ++ before_fault (s || list_any is_pad a) b
unfolding fault_byte before_fault
before-append [] b s h = ap (λ x. before_fault x b) (sym (or-false s))
before-append (c ∷ t) b s h =
    let k = passed (is_bad s c) c _ h in
    cc (k.0, or_assoc s (is_pad c) (list_any is_pad t), before-append t b (s || is_pad c) k.1)

-- if a has a fault, the bytes before the fault of a ++ b are those before the fault of a
before-append_some : (a b : List ℕ) (s : Bool) (x : ℕ) → fault_byte s a ≡ Some x
    → before_fault s (a ++ b) ≡ before_fault s a
unfolding fault_byte before_fault
before-append_some [] b s x h = absurd (some_not_none x (sym h))
before-append_some (c ∷ t) b s x h = elim (cases_Bool (is_bad s c)) [
  | inl e ↦ cc e
  | inr e ↦ cc (e, before-append_some t b (s || is_pad c) x (cc (e, h)))
]

-- if there is no fault, `before_fault` is the whole text
pub before_none : (a : List ℕ) (s : Bool) → fault_byte s a ≡ None → before_fault s a ≡ a
unfolding before_fault
before_none a s h = ap (before_fault s) (sym (append-nil a)) ∙ before-append a [] s h ∙ append-nil a

-- White space, symbols and padding

-- removing the whitespace of a text does not change the byte at its first fault
fault_compact : (b : List ℕ) (s : Bool) → fault_byte s (without_whitespace b) ≡ fault_byte s b
unfolding fault_byte without_whitespace
fault_compact [] s = refl
fault_compact (c ∷ t) s = grind (arith, space_alone (classes c), fault_compact t (s || is_pad c))

-- nor does it change the symbols
symbols_compact : (b : List ℕ) → filter is_symbol (without_whitespace b) ≡ filter is_symbol b
unfolding without_whitespace
symbols_compact [] = refl
symbols_compact (c ∷ t) = grind (arith, space_alone (classes c), symbols_compact t)

-- nor those before the first fault
before_compact : (b : List ℕ) (s : Bool)
    → filter is_symbol (before_fault s (without_whitespace b)) ≡ filter is_symbol (before_fault s b)
unfolding before_fault without_whitespace
before_compact [] s = refl
before_compact (c ∷ t) s = grind (arith, space_alone (classes c), before_compact t (s || is_pad c))

-- a text without a fault that comes after padding has no symbols
seen_none : (b : List ℕ) → fault_byte true b ≡ None → filter is_symbol b ≡ []
unfolding fault_byte
seen_none [] h = refl
seen_none (c ∷ t) h = grind (arith, seen_none t)

-- without whitespace there are the symbols, and then the padding
compact_step : {x y z : Bool} (s : Bool) (c : ℕ) (u f g : List ℕ) → Class x y z → (y ≡ true → c ≡ 61)
    → bad x y z s ≡ false → ((s || y) ≡ true → f ≡ []) → u ≡ f ++ replicate (length g) 61
    → cond (not x) (c ∷ u) u ≡ cond z (c ∷ f) f ++ replicate (length (cond y (c ∷ g) g)) 61
compact_step {x} {y} {z} s c u f g k p e none h = grind (arith, k.of_space, k.of_pad)

-- a text without a fault and without whitespace is its symbols and then its padding
compact_text : (b : List ℕ) (s : Bool) → fault_byte s b ≡ None
    → without_whitespace b ≡ filter is_symbol b ++ replicate (length (filter is_pad b)) 61
unfolding fault_byte without_whitespace
compact_text [] s h = refl
compact_text (c ∷ t) s h =
    let k = passed (is_bad s c) c _ h in
    compact_step s c (without_whitespace t) (filter is_symbol t) (filter is_pad t) (classes c) (eqb-true c 61) k.0
    (λ q. seen_none t (ap (λ x. fault_byte x t) (sym q) ∙ k.1)) (compact_text t (s || is_pad c) k.1)

-- n times '=' has no fault
pub fault_pads : (n : ℕ) (s : Bool) → fault_byte s (replicate n 61) ≡ None
unfolding fault_byte
fault_pads zero s = refl
fault_pads (suc n) s = grind (arith, fault_pads n (s || true))

-- symbols and then n times '=' have no fault
pub fault_text : (q : List ℕ) (n : ℕ) → Every is_symbol q → fault_byte false (q ++ replicate n 61) ≡ None
unfolding fault_byte
fault_text [] n h = fault_pads n false
fault_text (c ∷ t) n h = grind (arith, symbol_alone (classes c) h.0, fault_text t n h.1)

-- the symbols of q and then n times '=' are q
pub symbols_of_text : (q : List ℕ) (n : ℕ) → Every is_symbol q → filter is_symbol (q ++ replicate n 61) ≡ q
symbols_of_text [] zero h = refl
symbols_of_text [] (suc n) h = symbols_of_text [] n h
symbols_of_text (c ∷ t) n h = grind (arith, symbols_of_text t n h.1)

-- the padding of q and then n times '=' is n times '='
pub pads_of_text : (q : List ℕ) (n : ℕ) → Every is_symbol q → filter is_pad (q ++ replicate n 61) ≡ replicate n 61
pads_of_text [] zero h = refl
pads_of_text [] (suc n) h = ap (λ (x : List ℕ). 61 ∷ x) (pads_of_text [] n h)
pads_of_text (c ∷ t) n h = grind (arith, symbol_alone (classes c) h.0, pads_of_text t n h.1)

-- whether q and then n times '=' have padding is whether n times '=' has
pub any_of_text : (q : List ℕ) (n : ℕ) → Every is_symbol q → list_any is_pad (q ++ replicate n 61) ≡ list_any is_pad
    (replicate n 61)
any_of_text [] n h = refl
any_of_text (c ∷ t) n h = grind (arith, symbol_alone (classes c) h.0, any_of_text t n h.1)

-- What a filter keeps

-- all that a filter keeps passes
pub filter_every : (p : ℕ → Bool) (b : List ℕ) → Every p (filter p b)
filter_every p [] = tt
filter_every p (c ∷ t) = grind (arith, filter_every p t)

-- if all items of a list pass, a filter keeps the whole list
pub filter_all : (p : ℕ → Bool) (b : List ℕ) → Every p b → filter p b ≡ b
filter_all p [] h = refl
filter_all p (c ∷ t) h = grind (arith, filter_all p t h.1)

-- whether a list has items
abbrev pub is_nonempty : List ℕ → Bool
is_nonempty [] = false
is_nonempty (c ∷ t) = true

-- an item passes exactly if a filter keeps something
pub any_filter : (p : ℕ → Bool) (b : List ℕ) → list_any p b ≡ is_nonempty (filter p b)
any_filter p [] = refl
any_filter p (c ∷ t) = grind (arith, any_filter p t)

-- The first fault of a text has the smallest index of all faults, and a walk that remembers whether it has seen padding
-- finds it.

-- The smallest index

-- from a on and before e, the place is the first that passes, or none passes
abbrev IsLeast : (ℕ → Bool) → ℕ → ℕ → Option ℕ → Type 0
IsLeast p a e None = (i : ℕ) → a ≤ i → i < e → p i ≡ false
IsLeast p a e (Some i) = (a ≤ i) × (i < e) × (p i ≡ true) × ((k : ℕ) → a ≤ k → k < i → p k ≡ false)

-- a search of the n indices from a on finds the smallest one that passes, or none if none passes
find_least : (p : ℕ → Bool) (n a e : ℕ) → e ≡ a + n → IsLeast p a e (find p (range_with_len a n))
find_least p zero a e q = grind arith
find_least p (suc n) a e q = grind (arith, find_least p n (a + 1) e (omega arith))

-- the smallest index below the length of a text at which there is a fault, or none, is its first fault
least_is : (b : List ℕ) (o : Option ℕ) → IsLeast (is_fault b) 0 (length b) o → IsFirstFault b o
least_is b None h = λ i l. h i (omega arith) l
least_is b (Some i) (l, m, t, f) = grind arith

-- `first_fault` is the smallest index of a fault, or `None` if there is no fault
pub first_fault_least : (b : List ℕ) → IsFirstFault b (first_fault b)
unfolding first_fault
first_fault_least b = grind (arith, least_is, find_least)

-- The first fault of a text is where the walk stops.

-- the byte at a place
abbrev byte_at : List ℕ → Option ℕ → Option ℕ
byte_at b None = None
byte_at b (Some i) = Some (get_or b i 0)

-- whether the byte c after q is a fault of a text that begins with q and c
fault_at : (b q t : List ℕ) (c : ℕ) → q ++ c ∷ t ≡ b → is_fault b (length q) ≡ is_bad (list_any is_pad q) c
fault_at b q t c e = cc (e, get_or_at q c t 0 (length q) refl, take_at q (c ∷ t) (length q) refl)

-- given that p stands before b, a search by places in b finds where the walk over b stops
found : (f : ℕ → Bool) (p b : List ℕ) → ((q t : List ℕ) (c : ℕ) → q ++ c ∷ t ≡ p ++ b → f (length q) ≡ is_bad
    (list_any is_pad q) c) → let o = find f (range_with_len (length p) (length b)) in
    (byte_at (p ++ b) o ≡ fault_byte (list_any is_pad p) b)
    × (before_place (p ++ b) o ≡ p ++ before_fault (list_any is_pad p) b)
unfolding fault_byte before_fault
found f p [] h = (refl, refl)
found f p (c ∷ t) h =
    let more = found f (p ++ c ∷ []) t (λ q u d e. h q u d (e ∙ append_assoc p (c ∷ []) t)) in
    grind (arith, more, append_assoc, list_any-append, get_or_at, take_at, append-nil, length_push)

-- why a text is not valid, from the byte at its fault and the number of its symbols
abbrev pub kind_by : ℕ → Option ℕ → Kind
kind_by n None = cond (eqb (n % 4) 1) LoneAlphabetSymbol Padding
kind_by n (Some c) = cond (is_symbol c) AlphabetSymbolAfterPadding (UnexpectedSymbol c)

-- the byte at the first fault of a text is `fault_byte`
byte_is : (b : List ℕ) → byte_at b (first_fault b) ≡ fault_byte false b
unfolding first_fault
byte_is b = (found (is_fault b) [] b (fault_at b)).0

-- `first_fault` finds a fault exactly if `fault_byte` does
pub fault_some : (b : List ℕ) → is_some (first_fault b) ≡ is_some (fault_byte false b)
fault_some b = grind (arith, byte_is b)

-- if `first_fault` finds no fault, `fault_byte` finds none
pub fault_none : (b : List ℕ) → first_fault b ≡ None → fault_byte false b ≡ None
fault_none b e = sym (byte_is b) ∙ ap (byte_at b) e

-- if `fault_byte` finds no fault, `first_fault` finds none
pub none_fault : (b : List ℕ) → fault_byte false b ≡ None → first_fault b ≡ None
none_fault b e = grind (arith, byte_is b)

-- the kind of a text, from the number of its symbols and the byte at its fault
pub kind_is : (b : List ℕ) → kind_of b ≡ kind_by (length (values b)) (fault_byte false b)
unfolding kind_of
kind_is b = grind (arith, byte_is b)

-- the complete bytes are those of the groups before the fault
pub done_is : (b : List ℕ) → complete_bytes b ≡ groups (values (before_fault false b))
unfolding complete_bytes first_fault
done_is b = ap (λ x. groups (values x)) (found (is_fault b) [] b (fault_at b)).1

-- texts that are equal without white space have the same values
values_alike : (x y : List ℕ) → without_whitespace x ≡ without_whitespace y → values x ≡ values y
unfolding values
values_alike x y e =
    ap (map symbol_value) (sym (symbols_compact x) ∙ ap (filter is_symbol) e ∙ symbols_compact y)

-- they are both valid, or both not
pub valid_alike : (x y : List ℕ) → without_whitespace x ≡ without_whitespace y → is_valid x ≡ is_valid y
unfolding is_valid
valid_alike x y e = cc

-- they are decoded to the same bytes
pub decoded_alike : (x y : List ℕ) → without_whitespace x ≡ without_whitespace y → decoded x ≡ decoded y
unfolding decoded
decoded_alike x y e = cc (values_alike x y e)

-- they have the same complete bytes
pub done_alike : (x y : List ℕ) → without_whitespace x ≡ without_whitespace y → complete_bytes x ≡ complete_bytes y
unfolding values
done_alike x y e =
    let k = sym (before_compact x false) ∙ ap (λ z. filter is_symbol (before_fault false z)) e ∙ before_compact y
    false in
    done_is x ∙ ap (λ z. groups (map symbol_value z)) k ∙ sym (done_is y)

-- they have the same kind
pub kind_alike : (x y : List ℕ) → without_whitespace x ≡ without_whitespace y → kind_of x ≡ kind_of y
kind_alike x y e =
    let k = sym (fault_compact x false) ∙ ap (fault_byte false) e ∙ fault_compact y false in
    cc (kind_is x, kind_is y, values_alike x y e)

-- after a fault, the text that follows changes neither the complete bytes nor the kind
pub done_stays : (a b : List ℕ) (x : ℕ) → fault_byte false a ≡ Some x → complete_bytes (a ++ b) ≡ complete_bytes a
done_stays a b x h = grind (arith, done_is, before-append_some)

-- at a fault the kind is a symbol after padding for a symbol, and an unexpected byte otherwise
pub kind_fault : (a : List ℕ) (x : ℕ) → fault_byte false a ≡ Some x
    → kind_of a ≡ cond (is_symbol x) AlphabetSymbolAfterPadding (UnexpectedSymbol x)
kind_fault a x h = grind (arith, kind_is)

-- if a has a fault, a ++ b has the same kind
pub kind_stays : (a b : List ℕ) (x : ℕ) → fault_byte false a ≡ Some x → kind_of a ≡ kind_of (a ++ b)
kind_stays a b x h = kind_fault a x h ∙ sym (kind_fault (a ++ b) x (fault-append_some a b false x h))

-- Which texts are valid, from the numbers of their symbols and of their '='.

-- whether that many '=' fit, from the number of symbols modulo four
abbrev pub fits_with : ℕ → ℕ → Bool
fits_with r zero = not (eqb r 1)
fits_with r (suc zero) = eqb r 3
fits_with r (suc (suc zero)) = eqb r 2
fits_with r (suc (suc (suc p))) = false

-- one '=' less stands at the end of symbols and padding, if one stood there
last_pad : (q : List ℕ) (p : ℕ) → Every is_symbol q → without_last_padding (q ++ replicate p 61) ≡ q ++ replicate
    (pred p) 61
unfolding without_last_padding
last_pad [] zero h = refl
last_pad [] (suc zero) h = refl
last_pad [] (suc (suc n)) h = ap (λ (x : List ℕ). 61 ∷ x) (last_pad [] (suc n) h)
last_pad (a ∷ []) zero h = grind (arith, false≢true)
last_pad (a ∷ []) (suc n) h = ap (λ x. a ∷ x) (last_pad [] (suc n) tt)
last_pad (a ∷ b ∷ t) p h = ap (λ x. a ∷ x) (last_pad (b ∷ t) p h.1)

-- symbols and p times '=' are all symbols exactly if p is zero
list_all_text : (q : List ℕ) (p : ℕ) → Every is_symbol q → list_all is_symbol (q ++ replicate p 61) ≡ eqb p 0
list_all_text [] zero h = refl
list_all_text [] (suc n) h = grind arith
list_all_text (a ∷ t) p h = grind (arith, list_all_text t p h.1)

-- k symbols and p times '=', of which up to two are removed if k + p is a multiple of four, pass the last steps exactly
-- if p times '=' fit k symbols
passes_fit : (k p : ℕ) → cond (eqb ((k + p) % 4) 0)
    (not (eqb ((k + pred (pred p)) % 4) 1) && eqb (pred (pred p)) 0) (not (eqb ((k + p) % 4) 1) && eqb p 0)
    ≡ fits_with (k % 4) p
passes_fit k zero = grind arith
passes_fit k (suc zero) = grind arith
passes_fit k (suc (suc zero)) = grind arith
passes_fit k (suc (suc (suc n))) = grind arith

-- whether symbols and padding, with white space anywhere, are valid depends on their numbers
pub symbols_pads_valid : (b q : List ℕ) (p : ℕ) → IsSymbolsAndPadding b q p → is_valid b ≡ fits_with (length q % 4) p
unfolding is_valid without_padding
symbols_pads_valid b q p h = grind (arith, last_pad, list_all_text, length-append, length-replicate, passes_fit)

-- The numbers that fit

-- a text of symbols and padding is valid exactly if their numbers fit
pub padding_fits : (b : List ℕ) → PaddingFits b
padding_fits b q p h = grind (arith, symbols_pads_valid b q p h)

-- a text without a fault is valid exactly if the number of its '=' fits the number of its symbols
pub no_fault_valid : (b : List ℕ) → fault_byte false b ≡ None → is_valid b ≡ fits_with (length (filter is_symbol b) % 4)
    (length (filter is_pad b))
no_fault_valid b h = grind (arith, symbols_pads_valid, filter_every, compact_text)

-- if `list_all is_symbol` is true, every byte is a symbol
pub every_list_all : (q : List ℕ) → list_all is_symbol q ≡ true → Every is_symbol q
every_list_all [] h = tt
every_list_all (c ∷ t) h = let k = and_parts (is_symbol c) (list_all is_symbol t) h in (k.0, every_list_all t k.1)

-- if a text without the last '=' has no fault, neither has the text
last_none : (b : List ℕ) (s : Bool) → fault_byte s (without_last_padding b) ≡ None → fault_byte s b ≡ None
unfolding fault_byte without_last_padding
last_none [] s h = refl
last_none (a ∷ []) s h = grind (arith, eqb-true, fault_pads 1 s)
last_none (a ∷ b ∷ t) s h = let k = passed (is_bad s a) a _ h in cc (k.0, last_none (b ∷ t) (s || is_pad a) k.1)

-- if a text without its padding has no fault, neither has the text
unpadded_none : (s : List ℕ) → fault_byte false (without_padding s) ≡ None → fault_byte false s ≡ None
unfolding without_padding
unpadded_none s h = grind (arith, last_none)

-- a valid text has no fault
pub valid_no_fault : (b : List ℕ) → is_valid b ≡ true → fault_byte false b ≡ None
unfolding is_valid
valid_no_fault b h =
    let s = without_padding (without_whitespace b) in
    let all = every_list_all s (and_parts (not (eqb (length s % 4) 1)) (list_all is_symbol s) h).1 in
    sym (fault_compact b false) ∙ unpadded_none (without_whitespace b)
    (ap (fault_byte false) (sym (append-nil s)) ∙ fault_text s 0 all)

-- a text with a fault is not valid
pub fault_invalid : (b : List ℕ) (x : ℕ) → fault_byte false b ≡ Some x → is_valid b ≡ false
fault_invalid b x h = grind (arith, false_from_ne_true, some_not_none, valid_no_fault)

-- Groups of four

-- the bytes of x ++ y are those of the groups of x, and then those of what is left over of x followed by y
pub groups-append : (x y : List ℕ) → groups (x ++ y) ≡ groups x ++ groups (after_groups x ++ y)
unfolding groups after_groups
groups-append [] y = refl
groups-append (p ∷ []) y = refl
groups-append (p ∷ q ∷ []) y = refl
groups-append (p ∷ q ∷ r ∷ []) y = refl
groups-append (p ∷ q ∷ r ∷ s ∷ rest) y = grind (arith, groups-append rest y)

-- what is left over of x ++ y is what is left over of the rest of x followed by y
pub after_groups-append : (x y : List ℕ) → after_groups (x ++ y) ≡ after_groups (after_groups x ++ y)
unfolding after_groups
after_groups-append [] y = refl
after_groups-append (p ∷ []) y = refl
after_groups-append (p ∷ q ∷ []) y = refl
after_groups-append (p ∷ q ∷ r ∷ []) y = refl
after_groups-append (p ∷ q ∷ r ∷ s ∷ rest) y = after_groups-append rest y

-- the values left over are those from the largest multiple of four on
pub after_is : (x : List ℕ) → after_groups x ≡ drop (length x / 4 * 4) x
unfolding after_groups
after_is [] = refl
after_is (p ∷ []) = refl
after_is (p ∷ q ∷ []) = refl
after_is (p ∷ q ∷ r ∷ []) = refl
after_is (p ∷ q ∷ r ∷ s ∷ rest) =
    let e : suc (suc (suc (suc (length rest)))) / 4 * 4 ≡ suc (suc (suc (suc (length rest / 4 * 4)))) = omega arith in
    after_is rest ∙ sym (ap (λ n. drop n (p ∷ q ∷ r ∷ s ∷ rest)) e)

-- what is left over of a mapped list is what is left over of the list, mapped
pub after_groups-map : (f : ℕ → ℕ) (x : List ℕ) → after_groups (map f x) ≡ map f (after_groups x)
after_groups-map f x = cc (after_is x, after_is (map f x), length-map x f, drop-map f (length x / 4 * 4) x)

-- the number of values that are left over is the length modulo four
pub length-after_groups : (x : List ℕ) → length (after_groups x) ≡ length x % 4
length-after_groups x = omega (arith, ap length (after_is x), length-drop (length x / 4 * 4) x)

-- if all bytes are symbols, so are those left over after the groups
pub every_after : (x : List ℕ) → Every is_symbol x → Every is_symbol (after_groups x)
unfolding after_groups
every_after [] h = h
every_after (p ∷ []) h = h
every_after (p ∷ q ∷ []) h = h
every_after (p ∷ q ∷ r ∷ []) h = h
every_after (p ∷ q ∷ r ∷ s ∷ rest) h = every_after rest h.1.1.1.1

-- lists whose lengths are equal modulo four stay so if the same list is appended to both
pub length_alike : (x y : List ℕ) → length (x ++ y) % 4 ≡ length (after_groups x ++ y) % 4
length_alike x y = cc (length-after_groups (x ++ y), after_groups-append x y, length-after_groups (after_groups x ++ y))

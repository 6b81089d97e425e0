use Rattle.std.proofs.Common.{◌≡◌, append-nil, get_or, length, refl, ap, sym, ◌∙◌, arith}
use Rattle.std.{proofs.lemmas.Bool.{ne_eqb}, proofs.lemmas.List.{length-map}}
use Rattle.data_url.specs.Steps.{Groups.{held_bytes}, Holding.{left_state}}
use Rattle.data_url.proofs.forgiving_base64.Holding.{gains_groups, gains_none, held_len}
use Rattle.data_url.proofs.forgiving_base64.Steps.{completes_pad, completes_space, groups_few, refuses_after}
use Rattle.data_url.proofs.forgiving_base64.Steps.{refuses_other, sound}
use Rattle.data_url.proofs.forgiving_base64.Vectors.{space_is}
use Rattle.data_url.proofs.forgiving_base64.left_over.LeftOver.read_groups_or_byte.Goals as goal

-- no bytes have no groups, so that what is held stays if no whole groups were added
ruleset unfilled = (arith, append-nil, groups_few, length-map)

pub returns-then-taken-gt0 : goal.returns-then-taken-gt0
returns-then-taken-gt0 c =
    gains_groups c.decode_ahead-taken.result (omega arith) c.decode_ahead-taken.ensures.within
    (c.is_between_groups.ensures c.if-is_between_groups.true) refl c.decode_ahead-taken.ensures.added

pub returns-then-byte-eq61 : goal.returns-then-byte-eq61
returns-then-byte-eq61 c =
    let d = c.args.self.now in
    gains_none c.args.text.now c.requires.some (completes_pad (get_or c.args.text.now 0 0) c.if-byte-eq61.true
    (sound d) refl (ap (λ p. record (left_state d) { padding = p }) c.min-self.ensures)) (grind unfilled)

pub returns-else-not-is_ascii_whitespace : goal.returns-else-not-is_ascii_whitespace
returns-else-not-is_ascii_whitespace c =
    let byte = get_or c.args.text.now 0 0 in
    gains_none c.args.text.now c.requires.some (completes_space byte (sound c.args.self.now)
    (sym (space_is byte (omega arith)) ∙ sym c.is_ascii_whitespace.ensures.value ∙ c.if-not-is_ascii_whitespace.false)
    refl) (grind unfilled)

pub returns-then-not-is_ascii_whitespace : goal.returns-then-not-is_ascii_whitespace
returns-then-not-is_ascii_whitespace c = (
  refuses_other (get_or c.args.text.now 0 0) (sound c.args.self.now)
      (cc)
      (ne_eqb (get_or c.args.text.now 0 0) 61 c.if-byte-eq61.false)
      (sym c.is_symbol.ensures ∙ c.if-not-is_symbol.true)
      refl,
  grind unfilled,
)

pub returns-then-self-gt0 : goal.returns-then-self-gt0
returns-then-self-gt0 c = (
  refuses_after (get_or c.args.text.now 0 0) (sound c.args.self.now) (omega arith)
      (sym c.is_symbol.ensures ∙ c.if-not-is_symbol.false) refl,
  grind unfilled,
)

pub read_symbols-requires-clause-room : goal.read_symbols-requires-clause-room
read_symbols-requires-clause-room c =
    let groups = c.if-text-ge-BLOCK.groups in
    let same : held_bytes groups ≡ held_bytes c.args.groups.now = grind unfilled in
    omega (arith, ap length same, held_len groups, held_len c.args.groups.now, c.requires.room)

pub returns-else-self-gt0 : goal.returns-else-self-gt0
returns-else-self-gt0 c =
    let same : held_bytes c.if-text-ge-BLOCK.groups ≡ held_bytes c.args.groups.now = elim c.if-text-ge-BLOCK.branch [
      | goal.then-text-ge-BLOCK+then-is_between_groups+else-taken-gt0 w ↦ grind unfilled
      | goal.else-text-ge-BLOCK w ↦ ap held_bytes w.groups-is
    ] in
    rw same at c.read_symbols.ensures

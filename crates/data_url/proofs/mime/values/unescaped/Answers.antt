use Rattle.std.{proofs.Common.{Global, Vec, ap, arith, ℕ, ◌∙◌}, proofs.lemmas.List.{take_rest}}
use Rattle.data_url.proofs.mime.TokenTexts.{unescapes_all, value_chars, value_utf8}
use Rattle.data_url.proofs.mime.values.unescaped.Goals as goal

pub from_utf8_unchecked-requires : goal.from_utf8_unchecked-requires
from_utf8_unchecked-requires c = value_utf8 c.utf8.quoted (unescapes_all c.extend_from_slice.new.self.items
    c.loop-at.invariant c.loop-at-test.false
    (grind (arith, c.in_ok-extend_from_slice.ensures.items, c.truncate.ensures.items, take_rest))
    c.as_bytes-bytes.ensures.value)

pub returns : goal.returns
returns c = value_chars c.utf8.quoted (ap (λ (v : Vec ℕ Global). v.items) c.from_utf8_unchecked.ensures.value
    ∙ unescapes_all c.extend_from_slice.new.self.items c.loop-at.invariant c.loop-at-test.false
    (grind (arith, c.in_ok-extend_from_slice.ensures.items, c.truncate.ensures.items, take_rest))
    c.as_bytes-bytes.ensures.value)

use Rattle.std.proofs.Common.{Some, ap, length, sym, ◌∙◌}
use Rattle.data_url.proofs.escapes.Walking.{hash_at}
use Rattle.data_url.proofs.escapes.source.fragment_at.Goals as goal

pub returns : goal.returns
returns c =
    let h = hash_at c.requires (λ e. c.if-place-bytes.false (e ∙ ap length (sym c.as_bytes-bytes.ensures.value))) in
    ap (λ s. Some s) c.range_from.ensures.value ∙ sym h.2

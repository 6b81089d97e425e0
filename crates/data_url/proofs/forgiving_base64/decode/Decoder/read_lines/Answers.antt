use Rattle.std.proofs.Common.{length-drop, sym, take, ◌∙◌, ◌+◌, ap, arith}
use Rattle.std.{proofs.lemmas.Result.{err_from_is_err_and}, specs.Fn.{CalledAt}, specs.List.{list_all}}
use Rattle.data_url.specs.Base64.{is_symbol}
use Rattle.data_url.proofs.forgiving_base64.Groups.{no_gap, symbols_kept}
use Rattle.data_url.proofs.forgiving_base64.Holding.{block_called, block_refused}
use Rattle.data_url.proofs.forgiving_base64.Holding.{reads_on_spaces}
use Rattle.data_url.proofs.forgiving_base64.Steps.{sound}
use Rattle.data_url.proofs.forgiving_base64.decode.Decoder.read_lines.Goals as goal

pub block-init : goal.block-init
block-init g c = record {
  callable = c.requires.callable;
  between = c.requires.between;
  within = omega arith;
  going = c.requires.going;
  reads = λ d0 r. r;
}

pub returns-in_err-write_block-clause-read : goal.returns-in_err-write_block-clause-read
returns-in_err-write_block-clause-read g c =
    let i = c.block.invariant in
    let p = err_from_is_err_and c.from_residual.result c.from_residual.ensures.1 in
    let all = sym c.is_of_symbols.ensures ∙ c.if-is_of_symbols.true in
    let gap = no_gap c.args.text.now c.block.at (omega arith) all in
    rw (p.1, p.2) (λ d0 r. block_refused (CalledAt g.F.FnMut) c.args.text.now c.block.at i.within i.between gap
    (i.reads d0 r) c.in_err-write_block.ensures.called)

pub block-preserved-then-is_of_symbols : goal.block-preserved-then-is_of_symbols
block-preserved-then-is_of_symbols g c =
    let i = c.block.invariant in
    let all = sym c.is_of_symbols.ensures ∙ c.if-is_of_symbols.true in
    let gap = no_gap c.args.text.now c.block.at (omega arith) all in
    let called = c.in_ok-write_block.ensures.called in
    record {
      callable = c.in_ok-write_block.ensures.callable;
      between = (called.symbols_stay ∙ i.between.0, called.padding_stays ∙ i.between.1);
      within = omega arith;
      going = called.failed;
      reads = λ d0 r. block_called (CalledAt g.F.FnMut) c.args.text.now c.block.at i.between gap (i.reads d0 r) called;
    }

pub write_block-requires-in-block-clause-symbols : goal.write_block-requires-in-block-clause-symbols
write_block-requires-in-block-clause-symbols g c =
    sym (ap (list_all is_symbol) c.in-Some.ensures.symbols_are) ∙ symbols_kept (take (64 + c.in-Some.found.1) _)

pub returns-in_err-write_block-2-clause-read : goal.returns-in_err-write_block-2-clause-read
returns-in_err-write_block-2-clause-read g c =
    let i = c.block.invariant in
    let out = c.from_residual-in_err-write_block-2 in
    let p = err_from_is_err_and out.result out.ensures.1 in
    rw (p.1, p.2) (λ d0 r. block_refused (CalledAt g.F.FnMut) c.args.text.now c.block.at i.within i.between
    c.in-Some.ensures (i.reads d0 r) c.in_err-write_block-2.ensures.called)

pub block-preserved : goal.block-preserved
block-preserved g c =
    let i = c.block.invariant in
    let gap = c.in-Some.ensures in
    let called = c.in_ok-write_block-2.ensures.called in
    record {
      callable = c.in_ok-write_block-2.ensures.callable;
      between = (called.symbols_stay ∙ i.between.0, called.padding_stays ∙ i.between.1);
      within = omega (arith, gap.within, length-drop c.block.at c.args.text.now);
      going = called.failed;
      reads = λ d0 r. block_called (CalledAt g.F.FnMut) c.args.text.now c.block.at i.between gap (i.reads d0 r) called;
    }

pub returns-clause-read : goal.returns-clause-read
returns-clause-read g c =
    let i = c.block.invariant in
    let spaces = c.spaces_len-spaces in
    λ d0 r. (
      omega (arith, spaces.ensures.within, i.within, length-drop c.block.at c.args.text.now),
      reads_on_spaces (CalledAt g.F.FnMut) c.args.text.now c.block.at spaces.result (sound c.block.self.state)
          (i.reads d0 r) spaces.ensures.spaces,
    )

use Rattle.std.proofs.Common.{length-drop, sym, ◌∙◌, arith}
use Rattle.std.{proofs.lemmas.Result.{err_from_is_err_and}, specs.Fn.{CalledAt}}
use Rattle.data_url.proofs.forgiving_base64.Groups.{no_gap}
use Rattle.data_url.proofs.forgiving_base64.Holding.{block_called, block_refused, reads_none}
use Rattle.data_url.proofs.forgiving_base64.Holding.{reads_on_spaces}
use Rattle.data_url.proofs.forgiving_base64.Steps.{sound}
use Rattle.data_url.proofs.forgiving_base64.decode.Decoder.read_blocks.Goals as goal

pub returns-then-text-lt-BLOCK-clause-read : goal.returns-then-text-lt-BLOCK-clause-read
returns-then-text-lt-BLOCK-clause-read g c =
    (omega arith, reads_none (CalledAt g.F.FnMut) (sound c.args.self.now.state) c.requires.going)

pub block-init : goal.block-init
block-init g c = record {
  callable = c.requires.callable;
  between = c.is_between_groups.ensures c.if-not-is_between_groups.false;
  within = omega arith;
  reads = reads_none (CalledAt g.F.FnMut) (sound c.args.self.now.state) c.requires.going;
}

pub returns-clause-read : goal.returns-clause-read
returns-clause-read g c =
    let i = c.block.invariant in
    let spaces = c.spaces_len in (
      omega (arith, spaces.ensures.within, i.within, length-drop c.block.at c.args.text.now),
      reads_on_spaces (CalledAt g.F.FnMut) c.args.text.now c.block.at spaces.result (sound c.block.self.state)
          i.reads spaces.ensures.spaces,
    )

pub returns-then-at-text-clause-read : goal.returns-then-at-text-clause-read
returns-then-at-text-clause-read g c = (omega arith, c.block.invariant.reads)

pub returns-then-at-last-clause-read : goal.returns-then-at-last-clause-read
returns-then-at-last-clause-read g c = c.read_lines.ensures.read _ c.block.invariant.reads

pub returns-in_err-write_block-clause-read : goal.returns-in_err-write_block-clause-read
returns-in_err-write_block-clause-read g c =
    let i = c.block.invariant in
    let out = c.from_residual in
    let p = err_from_is_err_and out.result out.ensures.1 in
    let all = sym c.is_of_symbols.ensures ∙ c.if-not-is_of_symbols.false in
    rw (p.1, p.2) (block_refused (CalledAt g.F.FnMut) c.args.text.now c.block.at i.within i.between
    (no_gap c.args.text.now c.block.at (omega arith) all) i.reads c.in_err-write_block.ensures.called)

pub block-preserved : goal.block-preserved
block-preserved g c =
    let i = c.block.invariant in
    let all = sym c.is_of_symbols.ensures ∙ c.if-not-is_of_symbols.false in
    let called = c.in_ok-write_block.ensures.called in
    record {
      callable = c.in_ok-write_block.ensures.callable;
      between = (called.symbols_stay ∙ i.between.0, called.padding_stays ∙ i.between.1);
      within = omega arith;
      reads = block_called (CalledAt g.F.FnMut) c.args.text.now c.block.at i.between
          (no_gap c.args.text.now c.block.at (omega arith) all) i.reads called;
    }

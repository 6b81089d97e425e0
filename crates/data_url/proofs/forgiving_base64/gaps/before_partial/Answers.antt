use Rattle.std.proofs.Common.{arith}
use Rattle.data_url.proofs.forgiving_base64.Packed.{no_symbols, symbols_back}
use Rattle.data_url.proofs.forgiving_base64.gaps.before_partial.Goals as goal

pub overflow_sub-at : goal.overflow_sub-at
overflow_sub-at c = no_symbols c.args.text.now c.loop-have.at c.loop-have.invariant.symbols c.loop-have-test.true

pub loop-have-preserved-then-is_symbol : goal.loop-have-preserved-then-is_symbol
loop-have-preserved-then-is_symbol c =
    let i = c.loop-have.invariant in
    let some = no_symbols c.args.text.now c.loop-have.at i.symbols c.loop-have-test.true in
    record {
      fewer = omega (arith, i.fewer);
      back = omega (arith, i.back);
      symbols = (symbols_back c.args.text.now c.loop-have.at some (omega (arith, i.back, c.requires.within))
          i.symbols).0
          (cc (c.is_symbol.ensures, c.if-is_symbol.true));
    }

pub loop-have-preserved : goal.loop-have-preserved
loop-have-preserved c =
    let i = c.loop-have.invariant in
    let some = no_symbols c.args.text.now c.loop-have.at i.symbols c.loop-have-test.true in
    record {
      fewer = omega (arith, i.fewer);
      back = omega (arith, i.back);
      symbols = (symbols_back c.args.text.now c.loop-have.at some (omega (arith, i.back, c.requires.within))
          i.symbols).1
          (cc (c.is_symbol.ensures, c.if-is_symbol.false));
    }

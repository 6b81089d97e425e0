-- The decoder can be fed, and was fed what was read.
use Rattle.std.proofs.Common.{◌≡◌, false, length}
use Rattle.std.specs.Fn.{CalledAt, always_mut}
use Rattle.data_url.specs.Decoder.{state_of}
use Rattle.dataurl.specs.declared.stream.Ended.TheVariants.{ReadFailed}
use Rattle.dataurl.proofs.StreamLemmas.{Reading}
use Rattle.dataurl.proofs.stream.decode_reader.Given as goal

abbrev pub invariant-loop : goal.invariant-loop
invariant-loop g l = record {
  callable : always_mut g.F.FnMut (state_of l.decoder).closure;
  going : (state_of l.decoder).failed ≡ false;
  reading : Reading (CalledAt g.F.FnMut) l.fn.write (g.R.Read.remaining l.fn.reader) (g.R.Read.remaining l.reader)
      (state_of l.decoder);
  size : length l.piece ≡ 4096;
  ended : l.ended ≡ ReadFailed;
}

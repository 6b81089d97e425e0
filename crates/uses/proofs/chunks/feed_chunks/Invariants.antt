-- The chunks so far were fed, and the closure can still be called.
use Rattle.std.proofs.Common.{not, take}
use Rattle.std.specs.Fn.{CalledAt, always_mut}
use Rattle.data_url.specs.Decoder.{state_of}
use Rattle.uses.specs.Chunks.{FeedsChunks}
use Rattle.uses.proofs.chunks.feed_chunks.Given as goal

abbrev pub invariant-loop-chunk : goal.invariant-loop-chunk
invariant-loop-chunk g l =
    always_mut g.F.FnMut (state_of l.decoder).closure
    × FeedsChunks (CalledAt g.F.FnMut) (state_of l.fn.decoder) (take l.chunk-index l.chunks)
    (not (state_of l.decoder).failed) (state_of l.decoder)

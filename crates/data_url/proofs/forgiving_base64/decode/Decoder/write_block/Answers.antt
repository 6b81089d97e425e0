use Rattle.std.proofs.Common.{replicate, sym}
use Rattle.std.proofs.lemmas.{Simd.{put_chunk_whole}}
use Rattle.data_url.proofs.forgiving_base64.decode.Decoder.write_block.Goals as goal

pub returns-clause-called : goal.returns-clause-called
returns-clause-called g c =
    let whole = put_chunk_whole (replicate 64 0) c.decode_block.result (sym c.decode_block.ensures.len) in
    rw c.decode_block.ensures.bytes at (rw whole at c.write.ensures.called)

use Rattle.json.specs.Print.{escape}
use Rattle.redo_json.specs.Text.{base64_of}
use Rattle.redo_json.proofs.EscapeLemmas.{chunk_escape}
use Rattle.redo_json.proofs.WritingLemmas.{failed_part, left_is, wrote_more, wrote_rest}
use Rattle.redo_json.proofs.exact.write_chunks.Goals as goal

pub returns-in_err-write_chunk : goal.returns-in_err-write_chunk
returns-in_err-write_chunk g c =
    failed_part _ _ _ (escape (base64_of c.args.bytes.now)) _ _ _ _ c.from_residual.ensures.0
    (left_is _ _ _ _ _ (chunk_escape _ _ _ c.in-Some.ensures.some) c.chunks.invariant) c.in_err-write_chunk.ensures

pub chunks-preserved : goal.chunks-preserved
chunks-preserved g c =
    wrote_more _ _ _ _ _ _ (left_is _ _ _ _ _ (chunk_escape _ _ _ c.in-Some.ensures.some) c.chunks.invariant)
    c.in_ok-write_chunk.ensures

pub returns : goal.returns
returns g c =
    wrote_rest _ _ _ (escape (base64_of c.args.bytes.now)) _ _ c.chunks.invariant c.write_chunk-2.ensures

use Rattle.std.proofs.Common.{ℕ, List, take, length-drop, take-append-drop, sym, subst, arith}
use Rattle.std.proofs.lemmas.List.{length-take-le, take_rest}
use Rattle.redo_json.specs.Private.Writing.{HasChunk}
use Rattle.redo_json.proofs.exact.first_chunk.Goals as goal

pub slice_bounds-result-end : goal.slice_bounds-result-end
slice_bounds-result-end c = sym (length-take-le 768 c.args.bytes.now (omega (arith, c.if-bytes-le-CHUNK.false)))

pub returns-clause-some : goal.returns-clause-some
returns-clause-some c =
    let bytes = c.args.bytes.now in
    let left = length-drop 768 bytes in
    let many = c.if-bytes-le-CHUNK.false in
    subst (λ (b : List ℕ). HasChunk bytes (take 768 bytes) b) (sym (take_rest bytes 768))
    (record {
      less = omega (arith, many, left);
      splits = take-append-drop 768 bytes;
      size = length-take-le 768 bytes (omega (arith, many));
    })

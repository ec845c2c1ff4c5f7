use Rattle.std.proofs.Common.{ℕ, List, subst}
use Rattle.std.proofs.lemmas.List.{take_rest}
use Rattle.redo_json.specs.Private.Writing.{ArePlain}
use Rattle.redo_json.proofs.EscapeLemmas.{plain_more}
use Rattle.redo_json.proofs.plain.plain_len.Goals as goal

pub returns : goal.returns
returns c =
    let bytes = c.args.bytes.now in
    let len = c.plain_strides_len-len.result in
    let more = c.plain_bytes_len.result in
    plain_more bytes len more c.plain_strides_len-len.ensures
    (subst (λ (b : List ℕ). ArePlain b more) (take_rest bytes len) c.plain_bytes_len.ensures)
